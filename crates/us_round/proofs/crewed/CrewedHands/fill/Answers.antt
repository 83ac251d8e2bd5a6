use Rattle.std.proofs.Common.{◌≡◌, Ok, subst}
use Rattle.std.specs.Prelude.{IfOk}
use Rattle.std.proofs.lemmas.Result.{IfOk-weaker}
use Rattle.us_crew.specs.Values.{values_of}
use Rattle.us_round.specs.Hands.{filled_at}
use Rattle.us_round.proofs.crewed.CrewedHands.fill.Goals as goal

pub map_kept-requires : goal.map_kept-requires
map_kept-requires g c = rw c.requires.known (λ place item is entered. c.requires.ready place item is entered)

pub returns-clause-value : goal.returns-clause-value
returns-clause-value g c =
    IfOk-weaker c.answers.result (λ all. c.map_kept.result ≡ Ok all) _
    (λ all same. subst (λ r. IfOk r (λ all. all.items ≡ values_of (filled_at c.args.work.now) c.args.channels.items)) same
    (rw c.requires.known at c.map_kept.ensures.values)) c.answers.ensures.value
