use Rattle.std.proofs.Common.{◌≡◌, refl, ◌∙◌, arith}
use Rattle.us_holes.proofs.ShiftLemmas.{stands}
use Rattle.us_holes.proofs.holes.put_for_last.Goals as goal

pub returns : goal.returns
returns c =
    let l = c.loop-at in
    let place : l.at ≡ c.args.place = omega arith in
    stands l.holes l.at c.args.hole l.invariant.1 ∙ rw (l.invariant.2, place) refl
