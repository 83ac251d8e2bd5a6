use Rattle.std.proofs.Common.{◌<◌, ◌≤◌, length, ap, ◌∙◌, sym, arith}
use Rattle.std.specs.Prelude.{sum}
use Rattle.us_split.proofs.DivisionLemmas.{divided-all, few_weights, fewer-given}
use Rattle.us_split.proofs.shares.Shares.divide.Goals as goal

pub returns-then-bytes-weights : goal.returns-then-bytes-weights
returns-then-bytes-weights c =
    let enough : sum c.args.weights.now ≤ c.args.bytes =
    omega (arith, c.if-bytes-weights.true, c.weights.invariant.1, ap sum c.weights.view_is) in
    record { value = c.weights.view_is ∙ sym (divided-all c.args.bytes c.args.weights.now enough) }

pub top_up-requires-clause-small : goal.top_up-requires-clause-small
top_up-requires-clause-small c =
    omega (arith, few_weights c.args.weights.now c.bytes-all.ensures.few c.requires.bursts, c.weights.invariant.1, ap sum c.weights.view_is)

pub invariant_of-self-2 : goal.invariant_of-self-2
invariant_of-self-2 c =
    let below : c.args.bytes < sum c.bytes-all.result.now =
    omega (arith, c.if-bytes-weights.false, c.weights.invariant.1, ap sum c.weights.view_is, ap sum c.bytes-all.ensures.value) in (
      omega (arith, c.bytes-all.ensures.few, ap length c.bytes-all.ensures.value),
      fewer-given c.args.bytes c.bytes-all.result.now c.top_up.new.shares _ c.top_up.ensures below,
    )
