-- One more assignment among those by start: it keeps the order, and writes its minislots.
use Rattle.std.proofs.Common.{◌≡◌, ℕ, ◌+◌, ◌-◌, ◌<◌, ◌≤◌, List, [], ◌∷◌, ◌++◌, length, take, drop, replicate, Option, Some, None, refl, ap, sym, ◌∙◌, inl, inr, arith}
use Rattle.std.proofs.lemmas.Bool.{cases_lt, lt-ltb, le-ltb}
use Rattle.std.proofs.lemmas.List.{append_assoc, append-nil, length-replicate, replicate-append-replicate}
use Rattle.std.proofs.Math.Seq.{take-append_seam, drop-append_seam, take-append-add, drop-append-add}
use Rattle.us_holes.specs.Boards.{Holder, Assignment, assign}
use Rattle.us_holes.specs.Runs.{end_of, InOrder}
use Rattle.us_holes.specs.Lists.{its_holder, cells_of, board_of, place_among, put, holes_of}
use Rattle.us_holes.proofs.CellLemmas.{HasRoom, room_cases, alone_cases, room_inside}

-- What is written over the middle of a list,
abbrev written : ℕ → ℕ → Option Holder → List (Option Holder) → List (Option Holder)
written start slots cell cells = take start cells ++ replicate slots cell ++ drop (start + slots) cells

written_over : (before middle behind : List (Option Holder)) (start slots : ℕ) (cell : Option Holder) →
    length before ≡ start → length middle ≡ slots →
    written start slots cell (before ++ (middle ++ behind)) ≡ before ++ (replicate slots cell ++ behind)
written_over before middle behind start slots cell one other =
    let front : take start (before ++ (middle ++ behind)) ≡ before =
    rw (sym one) (take-append_seam before (middle ++ behind)) in
    let back : drop (start + slots) (before ++ (middle ++ behind)) ≡ behind =
    rw (sym one, sym other) (drop-append-add before (middle ++ behind) (length middle) ∙ drop-append_seam middle behind) in
    rw (front, back) (append_assoc before (replicate slots cell) behind)

-- and behind its front.
written_behind : (front cells : List (Option Holder)) (start after slots : ℕ) (cell : Option Holder) →
    length front + after ≡ start →
    written start slots cell (front ++ cells) ≡ front ++ written after slots cell cells
written_behind front cells start after slots cell e =
    let taken : take start (front ++ cells) ≡ front ++ take after cells =
    rw (sym e) (take-append-add front cells after) in
    let place : length front + (after + slots) ≡ start + slots = omega (arith, e) in
    let rest : drop (start + slots) (front ++ cells) ≡ drop (after + slots) cells =
    rw (sym place) (drop-append-add front cells (after + slots)) in
    rw (taken, rest) (simp append_assoc)

-- Idle minislots in three parts, of which the middle one is written.
gap_written : (start slots rest : ℕ) (all : ℕ) (cell : Option Holder) (behind : List (Option Holder)) →
    start + (slots + rest) ≡ all →
    written start slots cell (replicate all None ++ behind) ≡
    replicate start None ++ (replicate slots cell ++ (replicate rest None ++ behind))
gap_written start slots rest all cell behind e =
    let idle : Option Holder = None in
    let parts : replicate all idle ++ behind ≡ replicate start idle ++ (replicate slots idle ++ (replicate rest idle ++ behind)) =
    rw (sym e, sym (replicate-append-replicate start (slots + rest) idle), sym (replicate-append-replicate slots rest idle))
    (simp append_assoc) in
    rw parts
    (written_over (replicate start idle) (replicate slots idle) (replicate rest idle ++ behind) start slots cell
    (length-replicate start idle) (length-replicate slots idle))

-- One more assignment where there is room keeps the order, and writes its minislots.
pub put_first : (one other : Assignment) (more : List Assignment) → one.start < other.start →
    put one (other ∷ more) ≡ one ∷ other ∷ more
unfolding place_among
put_first one other more before = rw (lt-ltb one.start other.start before) refl

pub put_later : (one other : Assignment) (more : List Assignment) → other.start ≤ one.start →
    put one (other ∷ more) ≡ other ∷ put one more
unfolding place_among
put_later one other more behind = rw (le-ltb one.start other.start behind) refl

pub put_alone : (one : Assignment) → put one [] ≡ one ∷ []
unfolding place_among
put_alone one = refl

pub order_within : (from : ℕ) (assigned : List Assignment) (to beyond : ℕ) → InOrder from assigned to → to ≤ beyond →
    InOrder from assigned beyond
unfolding InOrder
order_within from [] to beyond order h = omega (arith, order, h)
order_within from (one ∷ more) to beyond order h =
    (order.0, order.1, order_within (end_of one) more to beyond order.2 h)

pub put_order : (from : ℕ) (assigned : List Assignment) (to : ℕ) (one : Assignment) → InOrder from assigned to →
    0 < one.slots → HasRoom (holes_of from assigned to) one.slots one.start → InOrder from (put one assigned) to
unfolding InOrder holes_of
put_order from [] to one order some h =
    let here = alone_cases from to one.slots one.start h in rw (put_alone one) (here.1, some, here.2)
put_order from (other ∷ more) to one order some h =
    elim (room_cases from other.start (holes_of (end_of other) more to) one.slots one.start h) [
      | inl here ↦
          rw (put_first one other more (omega (arith, here.2, some))) (here.1, some, (here.2, order.1, order.2))
      | inr later ↦
          let inside = room_inside (end_of other) more to one.slots one.start order.2 later in
          rw (put_later one other more (omega (arith, inside.0)))
          (order.0, order.1, put_order (end_of other) more to one order.2 some later)
    ]

pub put_cells : (from : ℕ) (assigned : List Assignment) (to : ℕ) (one : Assignment) → InOrder from assigned to →
    0 < one.slots → HasRoom (holes_of from assigned to) one.slots one.start →
    cells_of from (put one assigned) to ≡
    written (one.start - from) one.slots (Some (its_holder one)) (cells_of from assigned to)
unfolding InOrder holes_of cells_of
put_cells from [] to one order some h =
    let here = alone_cases from to one.slots one.start h in
    let idle : Option Holder = None in
    let gap = gap_written (one.start - from) one.slots (to - end_of one) (to - from) (Some (its_holder one)) []
    (omega (arith, here.1, here.2)) in
    rw put_alone (sym (rw (append-nil (replicate (to - from) idle), append-nil (replicate (to - end_of one) idle)) at gap))
put_cells from (other ∷ more) to one order some h =
    let idle : Option Holder = None in
    let gap : List (Option Holder) = replicate (other.start - from) idle in
    let held : List (Option Holder) = replicate other.slots (Some (its_holder other)) in
    let cells : List (Option Holder) = cells_of (end_of other) more to in
    elim (room_cases from other.start (holes_of (end_of other) more to) one.slots one.start h) [
      | inl here ↦
          rw (put_first one other more (omega (arith, here.2, some)))
          (sym (gap_written (one.start - from) one.slots (other.start - end_of one) (other.start - from) (Some (its_holder one)) (held ++ cells)
          (omega (arith, here.1, here.2))))
      | inr later ↦
          let inside = room_inside (end_of other) more to one.slots one.start order.2 later in
          rw (put_later one other more (omega (arith, inside.0)), put_cells (end_of other) more to one order.2 some later)
          (sym (
          written_behind gap (held ++ cells) (one.start - from) (other.slots + (one.start - end_of other)) one.slots (Some (its_holder one))
          (rw (length-replicate (other.start - from) idle) (omega (arith, inside.0, order.0)))
          ∙ ap (λ rest. gap ++ rest)
          (written_behind held cells (other.slots + (one.start - end_of other)) (one.start - end_of other) one.slots (Some (its_holder one))
          (rw (length-replicate other.slots (Some (its_holder other))) refl))
          ))
    ]

pub put_length : (one : Assignment) (assigned : List Assignment) → length (put one assigned) ≡ length assigned + 1
unfolding place_among
put_length one [] = refl
put_length one (other ∷ more) = elim (cases_lt one.start other.start) [
  | inl before ↦ rw (put_first one other more before) (omega arith)
  | inr behind ↦ rw (put_later one other more behind) (omega (arith, put_length one more))
]

-- So it is assigned on the board.
pub put_assigned : (assigned : List Assignment) (len : ℕ) (one : Assignment) → InOrder 0 assigned len → 0 < one.slots →
    HasRoom (holes_of 0 assigned len) one.slots one.start →
    board_of (put one assigned) len ≡ assign (board_of assigned len) one.start one.slots one.owner
put_assigned assigned len one order some h =
    let place : one.start - 0 ≡ one.start = omega arith in
    let cells = put_cells 0 assigned len one order some h in
    rw (put_length one assigned, cells, place) refl
