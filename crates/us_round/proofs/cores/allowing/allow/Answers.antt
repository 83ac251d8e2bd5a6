use Rattle.std.proofs.Common.{◌<◌, length, ap, sym, subst, ◌∙◌}
use Rattle.std.specs.Prelude.{slice_index_or}
use Rattle.std.proofs.lemmas.List.{length-set}
use Rattle.std.proofs.lemmas.Option.{slice_get-get_or}
use Rattle.us_flows.specs.declared.turns.Turn as places
use Rattle.us_bucket.specs.Levels.{bytes_in}
use Rattle.us_output.proofs.PartLemmas.{all_at}
use Rattle.us_round.proofs.AskingLemmas.{allowed_more}
use Rattle.us_round.proofs.cores.allowing.allow.Goals as goal

abbrev blank : places.Turn
blank = record { flow = 0; list = 0; cluster = 0 }

pub loop-place-preserved : goal.loop-place-preserved
loop-place-preserved c =
    let inv = c.loop-place.invariant in
    let turns = c.args.turns.now in
    let own : places.Turn = slice_index_or turns c.from.result blank in
    let levels = c.args.buckets.now.levels in
    let at = c.loop-place.place-index in
    let inside : c.from.result < length turns =
    subst (λ p. p < length turns) (sym c.from.ensures)
    (all_at (λ p. p < length turns) c.args.places.now at 0 c.requires.places c.loop-place-test.true) in
    let known : own.flow < length levels =
    all_at (λ (turn : places.Turn). turn.flow < length levels) turns c.from.result blank c.requires.flows inside in (
      c.bytes.ensures.same ∙ inv.0,
      length-set c.loop-place.allowances own.flow c.bytes.result ∙ inv.1,
      allowed_more turns levels c.loop-place.allowances c.args.places.now at c.from.result own c.bytes.result
          (inv.1 ∙ c.requires.long) c.loop-place-test.true c.from.ensures (slice_get-get_or turns c.from.result blank inside)
          known (λ d. c.bytes.ensures.value d ∙ ap (λ b. bytes_in (slice_index_or b.levels own.flow d)) inv.0) inv.2,
    )
