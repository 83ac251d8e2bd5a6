use Rattle.std.proofs.Common.{◌≡◌, ◌≤◌, ap, ◌∙◌, sym, arith}
use Rattle.std.specs.Prelude.{sum, slice_index}
use Rattle.us_split.specs.Divisions.{divided}
use Rattle.us_split.proofs.DivisionLemmas.{divided-all, divided-sum, divided-within}
use Rattle.us_split.proofs.divisions.divide.Goals as goal

all_weights : (c : goal.After-slice_known-then-bytes-total-1) →
    c.copy_from_slice.new.self ≡ divided c.args.bytes c.args.weights.now
all_weights c =
    let enough : sum c.args.weights.now ≤ c.args.bytes = omega (arith, c.sum_of-total.ensures) in
    c.copy_from_slice.ensures.after ∙ sym (divided-all c.args.bytes c.args.weights.now enough)

topped : (c : goal.After-slice_known-else-bytes-total-1) →
    c.top_up.new.shares ≡ divided c.args.bytes c.args.weights.now
topped c = c.top_up.ensures

pub returns-then-bytes-total-clause-value : goal.returns-then-bytes-total-clause-value
returns-then-bytes-total-clause-value c = all_weights c

pub returns-else-bytes-total-clause-value : goal.returns-else-bytes-total-clause-value
returns-else-bytes-total-clause-value c = topped c

pub returns-else-bytes-total-clause-all : goal.returns-else-bytes-total-clause-all
returns-else-bytes-total-clause-all c = ap sum (topped c) ∙ divided-sum c.args.bytes c.args.weights.now

pub returns-else-bytes-total-clause-within : goal.returns-else-bytes-total-clause-within
returns-else-bytes-total-clause-within c = λ channel.
    omega (arith, ap (λ shares. slice_index shares channel) (topped c), divided-within c.args.bytes c.args.weights.now channel)
