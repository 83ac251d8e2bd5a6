-- Where an assignment fits, and what is answered.
use Rattle.std.proofs.Common.{◌≡◌, ℕ, ◌+◌, ◌-◌, ◌<◌, ◌≤◌, nat_lt, true, false, Some, None, refl, arith}
use Rattle.std.proofs.lemmas.Bool.{and_from, and_right, leb-false, lt-ltb}
use Rattle.us_holes.specs.Boards.{Board, is_full, is_idle_at, fits, least_fit, IsLeastWithin}
use Rattle.us_holes.specs.Placements.{placed, IsPlacedAt}
use Rattle.us_holes.specs.declared.placements.Placed.TheVariants as answer
use Rattle.us_holes.proofs.IdleLemmas.{idle_inside, first_of-least, first_of-none}

-- Where there may be one more assignment, it fits where minislots are idle.
pub not_full : (board : Board) → is_full board ≡ false → board.standing < 100
not_full board h = leb-false 100 board.standing h

pub fits-idle : (board : Board) (slots start : ℕ) → is_full board ≡ false → is_idle_at board.cells slots start ≡ true →
    fits board slots start ≡ true
fits-idle board slots start few idle =
    and_from (nat_lt board.standing 100) (is_idle_at board.cells slots start)
    (lt-ltb board.standing 100 (not_full board few)) idle

pub fits-held : (board : Board) (slots start : ℕ) → is_idle_at board.cells slots start ≡ false →
    fits board slots start ≡ false
fits-held board slots start held = and_right (nat_lt board.standing 100) (is_idle_at board.cells slots start) held

pub least_fits : (board : Board) (from to slots start : ℕ) → is_full board ≡ false →
    IsLeastWithin (is_idle_at board.cells slots) from to start → IsLeastWithin (fits board slots) from to start
least_fits board from to slots start few least = record {
  passing = fits-idle board slots start few least.passing;
  above = least.above;
  below = least.below;
  first = λ at above below. fits-held board slots at (least.first at above below);
}

pub least_fit-some : (board : Board) (from to slots start : ℕ) → IsLeastWithin (fits board slots) from to start →
    least_fit board from to slots ≡ Some start
least_fit-some board from to slots start least =
    first_of-least (fits board slots) from (to + 1 - from) start least.passing least.above
    (omega (arith, least.above, least.below)) least.first

pub least_fit-none : (board : Board) (from to slots : ℕ) →
    ((start : ℕ) → from ≤ start → start ≤ to → fits board slots start ≡ false) → least_fit board from to slots ≡ None
least_fit-none board from to slots none =
    first_of-none (fits board slots) from (to + 1 - from) (λ start above below. none start above (omega (arith, above, below)))

-- The three answers.
pub placed-full : (board : Board) (from to slots : ℕ) → is_full board ≡ true → answer.Full ≡ placed board from to slots
placed-full board from to slots full = rw full refl

pub placed-at : (board : Board) (from to slots start : ℕ) → is_full board ≡ false →
    IsLeastWithin (is_idle_at board.cells slots) from to start → answer.At start slots ≡ placed board from to slots
placed-at board from to slots start few least =
    rw (few, least_fit-some board from to slots start (least_fits board from to slots start few least)) refl

pub says-at : (board : Board) (from to slots start : ℕ) → is_full board ≡ false →
    IsLeastWithin (is_idle_at board.cells slots) from to start → IsPlacedAt board from to slots start
says-at board from to slots start few least = record {
  least = least_fits board from to slots start few least;
  idle = least.passing;
  inside = idle_inside board.cells slots start least.passing;
}

pub placed-none : (board : Board) (from to slots : ℕ) → is_full board ≡ false →
    ((start : ℕ) → from ≤ start → start ≤ to → is_idle_at board.cells slots start ≡ false) →
    answer.NoRoom ≡ placed board from to slots
placed-none board from to slots few none =
    rw (few, least_fit-none board from to slots (λ start above below. fits-held board slots start (none start above below))) refl

pub ruleset full_facts = (placed-full)
