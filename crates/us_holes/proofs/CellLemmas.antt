-- Assignments by start: the minislots that are idle between them are those that holes have.
use Rattle.std.proofs.Common.{◌≡◌, ℕ, zero, suc, ◌+◌, ◌-◌, ◌⊎◌, ◌<◌, ◌≤◌, List, [], ◌∷◌, ◌++◌, length, replicate, get_or, true, false, Option, Some, None, refl, ap, sym, ◌∙◌, inl, inr, arith}
use Rattle.std.proofs.lemmas.Bool.{cases_lt, lt-ltb, le-ltb}
use Rattle.std.proofs.lemmas.List.{length-append, length-replicate, get_or_append_left, get_or-append_right, get_or-replicate}
use Rattle.us_holes.specs.Boards.{Holder, Assignment, is_idle_at}
use Rattle.us_holes.specs.Runs.{end_of, InOrder}
use Rattle.us_holes.specs.Lists.{its_holder, cells_of, Hole, hole_end, hole_in, holes_of}
use Rattle.us_holes.proofs.IdleLemmas.{idle_cells, cells_idle, IsIdle, nobody}

pub ordered_end : (from : ℕ) (assigned : List Assignment) (to : ℕ) → InOrder from assigned to → from ≤ to
unfolding InOrder
ordered_end from [] to order = order
ordered_end from (one ∷ more) to order = omega (arith, order.0, ordered_end (end_of one) more to order.2)

-- A minislot before the first assignment,
gap_cell : (from : ℕ) (one : Assignment) (more : List Assignment) (to at : ℕ) (d : Option Holder) → from ≤ at →
    at < one.start → get_or (cells_of from (one ∷ more) to) (at - from) d ≡ None
unfolding cells_of
gap_cell from one more to at d above below =
    let held : List (Option Holder) = replicate one.slots (Some (its_holder one)) in
    get_or_append_left (replicate (one.start - from) None) (held ++ cells_of (end_of one) more to) d (at - from)
    (rw (length-replicate {A = Option Holder} (one.start - from) None) (omega (arith, above, below)))
    ∙ get_or-replicate (one.start - from) (at - from) None d (omega (arith, above, below))

-- in it,
held_cell : (from : ℕ) (one : Assignment) (more : List Assignment) (to at : ℕ) (d : Option Holder) → from ≤ one.start →
    one.start ≤ at → at < end_of one → get_or (cells_of from (one ∷ more) to) (at - from) d ≡ Some (its_holder one)
unfolding cells_of
held_cell from one more to at d order above below =
    let held : List (Option Holder) = replicate one.slots (Some (its_holder one)) in
    let place : at - from - (one.start - from) ≡ at - one.start = omega (arith, order, above) in
    get_or-append_right (replicate (one.start - from) None) (held ++ cells_of (end_of one) more to) (one.start - from) (at - from) d
    (length-replicate (one.start - from) None) (omega (arith, order, above))
    ∙ ap (λ i. get_or (held ++ cells_of (end_of one) more to) i d) place
    ∙ get_or_append_left held (cells_of (end_of one) more to) d (at - one.start)
    (rw (length-replicate one.slots (Some (its_holder one))) (omega (arith, above, below)))
    ∙ get_or-replicate one.slots (at - one.start) (Some (its_holder one)) d (omega (arith, above, below))

-- and behind it.
later_cell : (from : ℕ) (one : Assignment) (more : List Assignment) (to at : ℕ) (d : Option Holder) → from ≤ one.start →
    end_of one ≤ at →
    get_or (cells_of from (one ∷ more) to) (at - from) d ≡ get_or (cells_of (end_of one) more to) (at - end_of one) d
unfolding cells_of
later_cell from one more to at d order above =
    let held : List (Option Holder) = replicate one.slots (Some (its_holder one)) in
    let place : at - from - (one.start - from) - one.slots ≡ at - end_of one = omega (arith, order, above) in
    get_or-append_right (replicate (one.start - from) None) (held ++ cells_of (end_of one) more to) (one.start - from) (at - from) d
    (length-replicate (one.start - from) None) (omega (arith, order, above))
    ∙ get_or-append_right held (cells_of (end_of one) more to) one.slots (at - from - (one.start - from)) d
    (length-replicate one.slots (Some (its_holder one))) (omega (arith, order, above))
    ∙ ap (λ i. get_or (cells_of (end_of one) more to) i d) place

-- Behind the last assignment all are idle.
last_cell : (from to at : ℕ) → at < to → from ≤ at → IsIdle (cells_of from [] to) (at - from)
unfolding cells_of
last_cell from to at below above =
    rw (get_or-replicate (to - from) (at - from) None (Some nobody) (omega (arith, above, below))) refl

past_cell : (from to at : ℕ) → to ≤ at → IsIdle (cells_of from [] to) (at - from) → ⊥
unfolding cells_of
past_cell from to at past idle =
    let no : false ≡ true = rw (past_replicate (to - from) (at - from) (omega (arith, past))) at idle in
    cc
  where
    past_replicate : (count i : ℕ) → count ≤ i → get_or (replicate count None) i (Some nobody) ≡ Some nobody
    past_replicate zero i h = refl
    past_replicate (suc count) zero h = absurd (omega (arith, h))
    past_replicate (suc count) (suc i) h = past_replicate count i (omega (arith, h))

-- Room for some minislots: a hole has them.
unfoldable pub HasRoom : List Hole → ℕ → ℕ → Type 0
HasRoom [] slots start = ⊥
HasRoom (hole ∷ more) slots start = ((hole.start ≤ start) × (start + slots ≤ hole_end hole)) ⊎ HasRoom more slots start

abbrev pub InGap : ℕ → ℕ → ℕ → ℕ → Type 0
InGap from to slots start = (from < to) × (from ≤ start) × (start + slots ≤ to)

pub room_cases : (from to : ℕ) (holes : List Hole) (slots start : ℕ) → HasRoom (hole_in from to ++ holes) slots start →
    InGap from to slots start ⊎ HasRoom holes slots start
unfolding HasRoom
room_cases from to holes slots start h = elim (cases_lt from to) [
  | inr none ↦ inr (rw (le-ltb from to none) at h)
  | inl some ↦ elim (rw (lt-ltb from to some) at h) [
    | inr later ↦ inr later
    | inl here ↦ inl (some, here.0, omega (arith, here.1, some))
  ]
]

room_here : (from to : ℕ) (holes : List Hole) (slots start : ℕ) → InGap from to slots start →
    HasRoom (hole_in from to ++ holes) slots start
unfolding HasRoom
room_here from to holes slots start h = rw (lt-ltb from to h.0) (inl (h.1, omega (arith, h.2, h.0)))

room_later : (from to : ℕ) (holes : List Hole) (slots start : ℕ) → HasRoom holes slots start →
    HasRoom (hole_in from to ++ holes) slots start
unfolding HasRoom
room_later from to holes slots start h = elim (cases_lt from to) [
  | inr none ↦ rw (le-ltb from to none) h
  | inl some ↦ rw (lt-ltb from to some) (inr h)
]

pub hole_alone : (from to : ℕ) → hole_in from to ++ [] ≡ hole_in from to
hole_alone from to = elim (cases_lt from to) [
  | inr none ↦ rw (le-ltb from to none) refl
  | inl some ↦ rw (lt-ltb from to some) refl
]

pub alone_cases : (from to slots start : ℕ) → HasRoom (hole_in from to) slots start → InGap from to slots start
unfolding HasRoom
alone_cases from to slots start h =
    elim (room_cases from to [] slots start (rw (hole_alone from to) h)) [ inl here ↦ here | inr later ↦ absurd later ]

-- Room lies inside,
pub room_inside : (from : ℕ) (assigned : List Assignment) (to slots start : ℕ) → InOrder from assigned to →
    HasRoom (holes_of from assigned to) slots start → (from ≤ start) × (start + slots ≤ to)
unfolding InOrder holes_of
room_inside from [] to slots start order h =
    let here = alone_cases from to slots start h in (here.1, here.2)
room_inside from (one ∷ more) to slots start order h =
    elim (room_cases from one.start (holes_of (end_of one) more to) slots start h) [
      | inl here ↦ (here.1, omega (arith, here.2, ordered_end (end_of one) more to order.2, order.1))
      | inr later ↦
          let rest = room_inside (end_of one) more to slots start order.2 later in
          (omega (arith, rest.0, order.0), rest.1)
    ]

-- and is idle;
room_idle : (from : ℕ) (assigned : List Assignment) (to slots start : ℕ) → InOrder from assigned to →
    HasRoom (holes_of from assigned to) slots start → (at : ℕ) → start ≤ at → at < start + slots →
    IsIdle (cells_of from assigned to) (at - from)
unfolding InOrder holes_of
room_idle from [] to slots start order h at above below =
    let here = alone_cases from to slots start h in
    last_cell from to at (omega (arith, below, here.2)) (omega (arith, above, here.1))
room_idle from (one ∷ more) to slots start order h at above below =
    elim (room_cases from one.start (holes_of (end_of one) more to) slots start h) [
      | inl here ↦
          rw (gap_cell from one more to at (Some nobody) (omega (arith, above, here.1)) (omega (arith, below, here.2))) refl
      | inr later ↦
          let inside = room_inside (end_of one) more to slots start order.2 later in
          let rest = room_idle (end_of one) more to slots start order.2 later at above below in
          rw (later_cell from one more to at (Some nobody) order.0 (omega (arith, inside.0, above))) rest
    ]

held_no : (from : ℕ) (one : Assignment) (more : List Assignment) (to at : ℕ) → from ≤ one.start → one.start ≤ at →
    at < end_of one → IsIdle (cells_of from (one ∷ more) to) (at - from) → ⊥
held_no from one more to at order above below idle =
    let no : false ≡ true = rw (held_cell from one more to at (Some nobody) order above below) at idle in
    cc

-- what is idle has room.
idle_room : (from : ℕ) (assigned : List Assignment) (to slots start : ℕ) → InOrder from assigned to → 0 < slots →
    from ≤ start → ((at : ℕ) → start ≤ at → at < start + slots → IsIdle (cells_of from assigned to) (at - from)) →
    HasRoom (holes_of from assigned to) slots start
unfolding InOrder holes_of
idle_room from [] to slots start order some above idle = elim (cases_lt to (start + slots)) [
  | inr inside ↦
      rw (sym (hole_alone from to)) (room_here from to [] slots start (omega (arith, some, above, inside), above, inside))
  | inl over ↦
      absurd (past_cell from to (start + slots - 1) (omega (arith, over)) (idle (start + slots - 1) (omega (arith, some)) (omega (arith, some))))
]
idle_room from (one ∷ more) to slots start order some above idle = elim (cases_lt start one.start) [
  | inl before ↦ elim (cases_lt one.start (start + slots)) [
    | inr inside ↦
        room_here from one.start (holes_of (end_of one) more to) slots start
        (omega (arith, above, before), above, inside)
    | inl over ↦
        absurd (held_no from one more to one.start order.0 (omega arith) (omega (arith, order.1)) (idle one.start (omega (arith, before)) over))
  ]
  | inr from_one ↦ elim (cases_lt start (end_of one)) [
    | inl here ↦ absurd (held_no from one more to start order.0 from_one here (idle start (omega arith) (omega (arith, some))))
    | inr behind ↦
        room_later from one.start (holes_of (end_of one) more to) slots start
        (idle_room (end_of one) more to slots start order.2 some behind
        (λ at low high. rw (sym (later_cell from one more to at (Some nobody) order.0 (omega (arith, behind, low)))) (idle at low high)))
  ]
]

-- So on a board minislots are idle where a hole has them.
pub room_is_idle : (assigned : List Assignment) (len slots start : ℕ) → InOrder 0 assigned len → 0 < slots →
    HasRoom (holes_of 0 assigned len) slots start → is_idle_at (cells_of 0 assigned len) slots start ≡ true
room_is_idle assigned len slots start order some h =
    cells_idle (cells_of 0 assigned len) slots start some
    (λ at above below.
    let place : at - 0 ≡ at = omega arith in rw place at (room_idle 0 assigned len slots start order h at above below))

pub idle_has_room : (assigned : List Assignment) (len slots start : ℕ) → InOrder 0 assigned len → 0 < slots →
    is_idle_at (cells_of 0 assigned len) slots start ≡ true → HasRoom (holes_of 0 assigned len) slots start
idle_has_room assigned len slots start order some h =
    idle_room 0 assigned len slots start order some (omega arith)
    (λ at above below.
    let place : at ≡ at - 0 = omega arith in
    rw place at (idle_cells (cells_of 0 assigned len) slots start h at above below))

-- The length of a board.
pub cells_length : (from : ℕ) (assigned : List Assignment) (to : ℕ) → InOrder from assigned to →
    length (cells_of from assigned to) ≡ to - from
unfolding InOrder cells_of
cells_length from [] to order = length-replicate (to - from) None
cells_length from (one ∷ more) to order =
    let held : List (Option Holder) = replicate one.slots (Some (its_holder one)) in
    let rest = cells_length (end_of one) more to order.2 in
    let ends = ordered_end (end_of one) more to order.2 in
    rw (
      length-append (replicate (one.start - from) None) (held ++ cells_of (end_of one) more to),
      length-append held (cells_of (end_of one) more to),
      length-replicate {A = Option Holder} (one.start - from) None,
      length-replicate one.slots (Some (its_holder one)),
      rest,
    ) (omega (arith, order.0, ends))
