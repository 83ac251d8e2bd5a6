-- An assignment that fits is placed where it fits.
use Rattle.std.proofs.Common.{◌≡◌, ℕ, ◌+◌, ◌-◌, ◌<◌, ◌≤◌, nat_lt, nat_le, List, [], ◌∷◌, length, take, drop, zero, suc, true, false, Option, is_none, refl, arith}
use Rattle.std.specs.List.{list_all}
use Rattle.std.proofs.lemmas.Bool.{and_parts, and_from, leb-true, ltb-true, lt-ltb, le-leb, false_from_ne_true}
use Rattle.us_holes.specs.Boards.{Holder, Board, is_idle_at, is_full, fits, first_of}
use Rattle.us_holes.specs.Placements.{placed}
use Rattle.us_holes.specs.declared.placements.Placed.TheVariants as answer

-- what a fit says
pub fit_few : (board : Board) (slots start : ℕ) → fits board slots start ≡ true → board.standing < 100
fit_few board slots start fit =
    ltb-true board.standing 100 (and_parts (nat_lt board.standing 100) (is_idle_at board.cells slots start) fit).0

pub fit_idle : (board : Board) (slots start : ℕ) → fits board slots start ≡ true →
    is_idle_at board.cells slots start ≡ true
fit_idle board slots start fit = (and_parts (nat_lt board.standing 100) (is_idle_at board.cells slots start) fit).1

pub fit_from : (board : Board) (slots start : ℕ) → board.standing < 100 → is_idle_at board.cells slots start ≡ true →
    fits board slots start ≡ true
fit_from board slots start few idle =
    and_from (nat_lt board.standing 100) (is_idle_at board.cells slots start) (lt-ltb board.standing 100 few) idle

-- idle minislots are inside
pub idle_inside : (cells : List (Option Holder)) (slots start : ℕ) → is_idle_at cells slots start ≡ true →
    start + slots ≤ length cells
idle_inside cells slots start idle =
    leb-true (start + slots) (length cells)
    (and_parts (nat_le (start + slots) (length cells)) (list_all is_none (take slots (drop start cells))) idle).0

pub not_full : (board : Board) → board.standing < 100 → is_full board ≡ false
not_full board few =
    false_from_ne_true (nat_le 100 board.standing)
    (λ is. let more : 100 ≤ board.standing = leb-true 100 board.standing is in omega arith)

pub few_where_not_full : (board : Board) → is_full board ≡ false → board.standing < 100
few_where_not_full board is = grind (arith, le-leb 100 board.standing)

pub placed_here : (board : Board) (slots start : ℕ) → fits board slots start ≡ true →
    placed board start start slots ≡ answer.At start slots
unfolding first_of
placed_here board slots start fit =
    let one : start + 1 - start ≡ 1 = omega arith in
    rw (not_full board (fit_few board slots start fit), one, fit) refl

pub fit_inside : (board : Board) (slots start : ℕ) → fits board slots start ≡ true → 1 ≤ slots →
    start < length board.cells
fit_inside board slots start fit some =
    omega (arith, idle_inside board.cells slots start (fit_idle board slots start fit))

-- fewer minislots are idle where more are
take_fewer : (cells : List (Option Holder)) (more fewer : ℕ) → list_all is_none (take more cells) ≡ true →
    fewer ≤ more → list_all is_none (take fewer cells) ≡ true
take_fewer cells more zero idle few = refl
take_fewer [] more (suc fewer) idle few = refl
take_fewer (cell ∷ cells) zero (suc fewer) idle few = absurd (omega arith)
take_fewer (cell ∷ cells) (suc more) (suc fewer) idle few =
    let both = and_parts (is_none cell) (list_all is_none (take more cells)) idle in
    and_from (is_none cell) (list_all is_none (take fewer cells)) both.0
    (take_fewer cells more fewer both.1 (omega arith))

pub idle_fewer : (cells : List (Option Holder)) (more fewer start : ℕ) → is_idle_at cells more start ≡ true →
    fewer ≤ more → is_idle_at cells fewer start ≡ true
idle_fewer cells more fewer start idle few =
    let inside : start + more ≤ length cells = idle_inside cells more start idle in
    and_from (nat_le (start + fewer) (length cells)) (list_all is_none (take fewer (drop start cells)))
    (le-leb (start + fewer) (length cells) (omega arith))
    (take_fewer (drop start cells) more fewer
    (and_parts (nat_le (start + more) (length cells)) (list_all is_none (take more (drop start cells))) idle).1 few)
