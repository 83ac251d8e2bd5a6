use Rattle.std.proofs.Common.{rules, arith, refl}
use Rattle.us_crew.proofs.turns.in_turn.Goals as goal

-- nothing is done yet
pub loop-item-init : goal.loop-item-init
loop-item-init g c =
    let same = c.into_iter-rest.ensures.rest in
    let room = c.in_ok-answers.ensures in
    rw (same, room.items)
    (search rules, search rules, omega arith, c.requires.items, refl, (λ sound. sound), λ place said first. first)
