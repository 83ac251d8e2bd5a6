-- Runs: how they are found, and what follows of their definition.
use Rattle.std.proofs.Common.{◌≡◌, ℕ, zero, suc, ◌+◌, ◌-◌, ◌*◌, ◌<◌, ◌≤◌, nat_eq, List, [], ◌∷◌, ◌++◌, length, replicate, true, false, ◌&&◌, Option, Some, None, is_none, refl, ap, sym, ◌∙◌, inl, inr, arith}
use Rattle.std.specs.List.{flat_map}
use Rattle.std.proofs.lemmas.Bool.{cases_Bool, cases_lt, lt-ltb, le-ltb, eqb-true, eq-eqb, ne_eqb, and_parts, and_from, and_left}
use Rattle.std.proofs.lemmas.List.{append-nil}
use Rattle.us_holes.specs.Boards.{Owner, Holder, Board, Assignment}
use Rattle.us_holes.specs.Runs.{Run, same_holder, same_cell, goes_on, owner_of, lengthened, runs_from, runs_of, FollowOn, holder_of, minislots_of, Differ, end_of, InOrder, idle_run, runs_between}
use Rattle.us_holes.specs.Lists.{its_holder, cells_of}
use Rattle.us_holes.specs.Kept.{cell_at, AreHeldFromStart, changes, IsBoard}

-- A holder is the same as itself,
same_holder-refl : (holder : Holder) → same_holder holder holder ≡ true
same_holder-refl holder =
    and_from (nat_eq holder.start holder.start) (nat_eq holder.owner.sid holder.owner.sid && nat_eq holder.owner.iuc holder.owner.iuc)
    (eq-eqb holder.start holder.start refl)
    (and_from (nat_eq holder.owner.sid holder.owner.sid) (nat_eq holder.owner.iuc holder.owner.iuc)
    (eq-eqb holder.owner.sid holder.owner.sid refl) (eq-eqb holder.owner.iuc holder.owner.iuc refl))

pub same_cell-refl : (cell : Option Holder) → same_cell cell cell ≡ true
same_cell-refl None = refl
same_cell-refl (Some holder) = same_holder-refl holder

-- and no other is.
abbrev made : ℕ → ℕ → ℕ → Holder
made start sid iuc = record { start = start; owner = record { sid = sid; iuc = iuc } }

same_holder-is : (one other : Holder) → same_holder one other ≡ true → one ≡ other
same_holder-is one other h =
    let starts = and_parts (nat_eq one.start other.start) (nat_eq one.owner.sid other.owner.sid && nat_eq one.owner.iuc other.owner.iuc) h in
    let owners = and_parts (nat_eq one.owner.sid other.owner.sid) (nat_eq one.owner.iuc other.owner.iuc) starts.1 in
    let start : one.start ≡ other.start = eqb-true one.start other.start starts.0 in
    let sid : one.owner.sid ≡ other.owner.sid = eqb-true one.owner.sid other.owner.sid owners.0 in
    let iuc : one.owner.iuc ≡ other.owner.iuc = eqb-true one.owner.iuc other.owner.iuc owners.1 in
    let same : made one.start one.owner.sid one.owner.iuc ≡ made other.start other.owner.sid other.owner.iuc =
    rw (start, sid, iuc) refl in
    same

pub same_cell-is : (one other : Option Holder) → same_cell one other ≡ true → one ≡ other
same_cell-is None None h = refl
same_cell-is None (Some other) h = let no : false ≡ true = h in absurd cc
same_cell-is (Some one) None h = let no : false ≡ true = h in absurd cc
same_cell-is (Some one) (Some other) h = ap (λ holder. Some holder) (same_holder-is one other h)

-- The first of the runs from a minislot on is its holder's.
record FirstIs (start : ℕ) (cell : Option Holder) (runs : List Run) : Type 0 where
  len : ℕ
  rest : List Run
  is : runs ≡ record { start = start; len = len; owner = owner_of cell } ∷ rest

first_longer : (start : ℕ) (cell next : Option Holder) (runs : List Run) → cell ≡ next → FirstIs (start + 1) next runs →
    FirstIs start cell (lengthened runs)
first_longer start cell next runs same first =
    let back : start + 1 - 1 ≡ start = omega arith in
    record {
      len = first.len + 1;
      rest = first.rest;
      is = rw (first.is, back, same) refl;
    }

runs_from-first : (start : ℕ) (cell : Option Holder) (cells : List (Option Holder)) →
    FirstIs start cell (runs_from start (cell ∷ cells))
unfolding runs_from
runs_from-first start cell [] = record { len = 1; rest = []; is = refl }
runs_from-first start cell (next ∷ cells) = elim (cases_Bool (same_cell cell next)) [
  | inl t ↦ rw t (first_longer start cell next (runs_from (start + 1) (next ∷ cells)) (same_cell-is cell next t)
      (runs_from-first (start + 1) next cells))
  | inr f ↦ record { len = 1; rest = runs_from (start + 1) (next ∷ cells); is = rw f refl }
]

-- what stands behind a run has another holder, where something does
abbrev pub Differs : Option Holder → List (Option Holder) → Type 0
Differs cell cells = goes_on cell cells ≡ false

-- minislots of one holder before another holder are a run
pub runs_group : (start more end : ℕ) (cell : Option Holder) (cells : List (Option Holder)) → start + suc more ≡ end →
    Differs cell cells →
    runs_from start (replicate (suc more) cell ++ cells) ≡
    record { start = start; len = suc more; owner = owner_of cell } ∷ runs_from end cells
unfolding runs_from
runs_group start zero end cell cells e h =
    let next : start + 1 ≡ end = omega (arith, e) in
    rw (sym next, h) refl
runs_group start (suc more) end cell cells e h =
    let next : start + 1 + suc more ≡ end = omega (arith, e) in
    let count : suc more + 1 ≡ suc (suc more) = omega arith in
    let back : start + 1 - 1 ≡ start = omega arith in
    rw (same_cell-refl cell, runs_group (start + 1) more end cell cells next h, back, count) refl

-- Runs of assignments by start, and of the gaps between them.
group : (start slots end : ℕ) (cell : Option Holder) (cells : List (Option Holder)) → 0 < slots → start + slots ≡ end →
    Differs cell cells →
    runs_from start (replicate slots cell ++ cells) ≡
    record { start = start; len = slots; owner = owner_of cell } ∷ runs_from end cells
group start zero end cell cells some e h = absurd (omega (arith, some))
group start (suc more) end cell cells some e h = runs_group start more end cell cells e h

-- what is idle differs from what is held
idle_differs : (slots : ℕ) (holder : Holder) (cells : List (Option Holder)) → 0 < slots →
    Differs None (replicate slots (Some holder) ++ cells)
idle_differs zero holder cells some = absurd (omega (arith, some))
idle_differs (suc slots) holder cells some = refl

gap_differs : (slots : ℕ) (holder : Holder) (cells : List (Option Holder)) → Differs (Some holder) cells →
    Differs (Some holder) (replicate slots None ++ cells)
gap_differs zero holder cells h = h
gap_differs (suc slots) holder cells h = refl

-- and so do assignments
start_differs : (slots : ℕ) (one other : Holder) (cells : List (Option Holder)) → 0 < slots → one.start < other.start →
    Differs (Some one) (replicate slots (Some other) ++ cells)
start_differs zero one other cells some h = absurd (omega (arith, some))
start_differs (suc slots) one other cells some h =
    and_left (nat_eq one.start other.start) (nat_eq one.owner.sid other.owner.sid && nat_eq one.owner.iuc other.owner.iuc)
    (ne_eqb one.start other.start (λ same. omega (arith, h, same)))

next_differs : (from : ℕ) (assigned : List Assignment) (to : ℕ) (holder : Holder) → InOrder from assigned to →
    holder.start < from → Differs (Some holder) (cells_of from assigned to)
unfolding InOrder cells_of
next_differs from [] to holder order h =
    let idle : Option Holder = None in
    rw (append-nil (replicate (to - from) idle)) at (gap_differs (to - from) holder [] refl)
next_differs from (one ∷ more) to holder order h =
    gap_differs (one.start - from) holder (replicate one.slots (Some (its_holder one)) ++ cells_of (end_of one) more to)
    (start_differs one.slots holder (its_holder one) (cells_of (end_of one) more to) order.1 (omega (arith, h, order.0)))

gap_runs : (from to : ℕ) (cells : List (Option Holder)) → from ≤ to → Differs None cells →
    runs_from from (replicate (to - from) None ++ cells) ≡ idle_run from to ++ runs_from to cells
gap_runs from to cells order h = elim (cases_lt from to) [
  | inl some ↦ rw (lt-ltb from to some) (group from (to - from) to None cells (omega (arith, some)) (omega (arith, some)) h)
  | inr none ↦
      let nothing : to - from ≡ 0 = omega (arith, none) in
      let same : from ≡ to = omega (arith, none, order) in
      rw (le-ltb from to none, nothing, same) refl
]

pub runs_are : (from : ℕ) (assigned : List Assignment) (to : ℕ) → InOrder from assigned to →
    runs_between from assigned to ≡ runs_from from (cells_of from assigned to)
unfolding InOrder cells_of runs_between runs_from
runs_are from [] to order =
    let idle : Option Holder = None in
    let is : runs_from from (replicate (to - from) idle) ≡ idle_run from to =
    rw (append-nil (replicate (to - from) idle), append-nil (idle_run from to)) at (gap_runs from to [] order refl) in
    sym is
runs_are from (one ∷ more) to order =
    let held : Option Holder = Some (its_holder one) in
    let rest : List (Option Holder) = cells_of (end_of one) more to in
    rw (
      gap_runs from one.start (replicate one.slots held ++ rest) order.0 (idle_differs one.slots (its_holder one) rest order.1),
      group one.start one.slots (end_of one) held rest order.1 refl
          (next_differs (end_of one) more to (its_holder one) order.2 (omega (arith, order.1))),
      runs_are (end_of one) more to order.2,
    ) refl

-- Runs follow on without a gap.
lengthened-follow : (start to len : ℕ) (owner : Option Owner) (rest : List Run) →
    FollowOn (start + 1) to (record { start = start + 1; len = len; owner = owner } ∷ rest) →
    FollowOn start to (lengthened (record { start = start + 1; len = len; owner = owner } ∷ rest))
unfolding FollowOn
lengthened-follow start to len owner rest h =
    let ends : start + 1 - 1 + (len + 1) ≡ start + 1 + len = omega arith in
    (omega arith, omega arith, rw ends h.2)

pub runs_follow : (start to : ℕ) (cells : List (Option Holder)) → start + length cells ≡ to →
    FollowOn start to (runs_from start cells)
unfolding FollowOn runs_from
runs_follow start to [] e = omega (arith, e)
runs_follow start to (cell ∷ []) e = (refl, omega arith, omega (arith, e))
runs_follow start to (cell ∷ next ∷ cells) e =
    let first = runs_from-first (start + 1) next cells in
    let rest : FollowOn (start + 1) to (runs_from (start + 1) (next ∷ cells)) =
    runs_follow (start + 1) to (next ∷ cells) (omega (arith, e)) in
    elim (cases_Bool (same_cell cell next)) [
      | inl t ↦
          rw (t, first.is) (lengthened-follow start to first.len (owner_of next) first.rest (rw first.is at rest))
      | inr f ↦ rw f (refl, omega arith, rest)
    ]

-- Idle runs stand apart,
unfoldable IdleApart : List Run → Type 0
IdleApart [] = Unit {0}
IdleApart (run ∷ []) = Unit {0}
IdleApart (run ∷ next ∷ runs) = ((is_none run.owner && is_none next.owner) ≡ false) × IdleApart (next ∷ runs)

lengthened-apart : (run : Run) (runs : List Run) → IdleApart (run ∷ runs) → IdleApart (lengthened (run ∷ runs))
unfolding IdleApart
lengthened-apart run [] h = tt
lengthened-apart run (next ∷ runs) h = h

cells_apart : (cell next : Option Holder) → same_cell cell next ≡ false →
    (is_none (owner_of cell) && is_none (owner_of next)) ≡ false
cells_apart None None h = h
cells_apart None (Some next) h = refl
cells_apart (Some cell) None h = refl
cells_apart (Some cell) (Some next) h = refl

runs_apart : (start : ℕ) (cells : List (Option Holder)) → IdleApart (runs_from start cells)
unfolding IdleApart runs_from
runs_apart start [] = tt
runs_apart start (cell ∷ []) = tt
runs_apart start (cell ∷ next ∷ cells) =
    let first = runs_from-first (start + 1) next cells in
    let run : Run = record { start = start + 1; len = first.len; owner = owner_of next } in
    let rest : IdleApart (runs_from (start + 1) (next ∷ cells)) = runs_apart (start + 1) (next ∷ cells) in
    elim (cases_Bool (same_cell cell next)) [
      | inl t ↦ rw (t, first.is) (lengthened-apart run first.rest (rw first.is at rest))
      | inr f ↦ rw (f, first.is) (cells_apart cell next f, rw first.is at rest)
    ]

-- and the others start apart: so the holders of runs side by side differ.
holders_differ : (start next : ℕ) (one other : Option Owner) → start < next →
    (is_none one && is_none other) ≡ false → same_cell (holder_of start one) (holder_of next other) ≡ false
holders_differ start next None None above h = let no : true ≡ false = h in absurd cc
holders_differ start next None (Some other) above h = refl
holders_differ start next (Some one) None above h = refl
holders_differ start next (Some one) (Some other) above h =
    and_left (nat_eq start next) (nat_eq one.sid other.sid && nat_eq one.iuc other.iuc)
    (ne_eqb start next (λ same. omega (arith, above, same)))

apart_differ : (from to : ℕ) (runs : List Run) → FollowOn from to runs → IdleApart runs → Differ runs
unfolding FollowOn IdleApart Differ
apart_differ from to [] h k = tt
apart_differ from to (run ∷ []) h k = tt
apart_differ from to (run ∷ next ∷ runs) h k = (
  holders_differ run.start next.start run.owner next.owner (omega (arith, h.1, h.2.0)) k.0,
  apart_differ (run.start + run.len) to (next ∷ runs) h.2 k.1,
)

pub runs_differ : (cells : List (Option Holder)) → Differ (runs_of cells)
runs_differ cells = apart_differ 0 (length cells) (runs_of cells) (runs_follow 0 (length cells) cells (omega arith)) (runs_apart 0 cells)

-- A minislot that hasn't the holder of the one before it is the first of its assignment.
abbrev StartsHere : ℕ → Option Holder → Type 0
StartsHere start None = Unit {0}
StartsHere start (Some holder) = holder.start ≡ start

unfoldable AreStarts : ℕ → Option Holder → List (Option Holder) → Type 0
AreStarts start cell [] = Unit {0}
AreStarts start cell (next ∷ cells) =
    (same_cell cell next ≡ false → StartsHere start next) × AreStarts (start + 1) next cells

starts_here : (all : List (Option Holder)) (at : ℕ) (cell next : Option Holder) → AreHeldFromStart all →
    cell_at all at ≡ cell → cell_at all (at + 1) ≡ next → same_cell cell next ≡ false → StartsHere (at + 1) next
starts_here all at cell None held e h differs = tt
starts_here all at cell (Some holder) held e h differs =
    let known = held (at + 1) holder h in
    elim (cases_lt at holder.start) [
      | inl above ↦ omega (arith, above, known.0)
      | inr below ↦
          let same : cell ≡ Some holder = sym e ∙ known.1 at below (omega arith) in
          let no : true ≡ false = sym (same_cell-refl (Some holder)) ∙ (rw same at differs) in
          absurd cc
    ]

held_starts : (all : List (Option Holder)) (at : ℕ) (cell : Option Holder) (cells : List (Option Holder)) → AreHeldFromStart all →
    ((k : ℕ) → cell_at all (at + k) ≡ cell_at (cell ∷ cells) k) → AreStarts (at + 1) cell cells
unfolding AreStarts
held_starts all at cell [] held e = tt
held_starts all at cell (next ∷ cells) held e =
    let here : at + 0 ≡ at = omega arith in
    let first : cell_at all at ≡ cell = rw here at (e 0) in (
      λ differs. starts_here all at cell next held first (e 1) differs,
      held_starts all (at + 1) next cells held
          (λ k. let place : at + 1 + k ≡ at + suc k = omega arith in rw place (e (suc k))),
    )

-- Such a run gives its minislots back.
holder_back : (start : ℕ) (cell : Option Holder) → StartsHere start cell → holder_of start (owner_of cell) ≡ cell
holder_back start None h = refl
holder_back start (Some holder) h = rw (sym h) refl

record GivesBack (start : ℕ) (cell : Option Holder) (cells : List (Option Holder)) : Type 0 where
  len : ℕ
  rest : List Run
  is : runs_from start (cell ∷ cells) ≡ record { start = start; len = len; owner = owner_of cell } ∷ rest
  gives : replicate len cell ++ flat_map minislots_of rest ≡ cell ∷ cells

gives_back : (start : ℕ) (cell : Option Holder) (cells : List (Option Holder)) → AreStarts (start + 1) cell cells →
    GivesBack start cell cells
unfolding runs_from AreStarts
gives_back start cell [] h = record { len = 1; rest = []; is = refl; gives = refl }
gives_back start cell (next ∷ cells) h =
    let more = gives_back (start + 1) next cells h.1 in
    let back : start + 1 - 1 ≡ start = omega arith in
    elim (cases_Bool (same_cell cell next)) [
      | inl t ↦
          let same : cell ≡ next = same_cell-is cell next t in
          let count : more.len + 1 ≡ suc more.len = omega arith in
          record {
            len = more.len + 1;
            rest = more.rest;
            is = rw (t, more.is, back, same) refl;
            gives = rw (count, same) (ap (λ rest. next ∷ rest) more.gives);
          }
      | inr f ↦ record {
        len = 1;
        rest = record { start = start + 1; len = more.len; owner = owner_of next } ∷ more.rest;
        is = rw (f, more.is) refl;
        gives = rw (holder_back (start + 1) next (h.0 f)) (ap (λ rest. cell ∷ rest) more.gives);
      }
    ]

first_here : (cell : Option Holder) (cells : List (Option Holder)) → AreHeldFromStart (cell ∷ cells) → StartsHere 0 cell
first_here None cells held = tt
first_here (Some holder) cells held = omega (arith, (held 0 holder refl).0)

pub runs_minislots : (cells : List (Option Holder)) → AreHeldFromStart cells → flat_map minislots_of (runs_of cells) ≡ cells
unfolding runs_from
runs_minislots [] held = refl
runs_minislots (cell ∷ cells) held =
    let all = gives_back 0 cell cells (held_starts (cell ∷ cells) 0 cell cells held (λ k. let place : 0 + k ≡ k = omega arith in rw place refl)) in
    rw (all.is, holder_back 0 cell (first_here cell cells held)) all.gives

pub board_minislots : (board : Board) → IsBoard board → flat_map minislots_of (runs_of board.cells) ≡ board.cells
board_minislots board is = runs_minislots board.cells is.held

-- There is one run more than there are changes.
lengthened-length : (runs : List Run) → length (lengthened runs) ≡ length runs
lengthened-length [] = refl
lengthened-length (run ∷ runs) = refl

runs_count : (start : ℕ) (cell : Option Holder) (cells : List (Option Holder)) →
    length (runs_from start (cell ∷ cells)) ≡ changes (cell ∷ cells) + 1
unfolding runs_from changes
runs_count start cell [] = refl
runs_count start cell (next ∷ cells) =
    let count : length (runs_from (start + 1) (next ∷ cells)) ≡ changes (next ∷ cells) + 1 =
    runs_count (start + 1) next cells in
    elim (cases_Bool (same_cell cell next)) [
      | inl t ↦ rw t (omega (arith, count, lengthened-length (runs_from (start + 1) (next ∷ cells))))
      | inr f ↦ rw f (omega (arith, count))
    ]

runs_most : (cells : List (Option Holder)) → length (runs_of cells) ≤ changes cells + 1
unfolding runs_from
runs_most [] = omega arith
runs_most (cell ∷ cells) = omega (arith, runs_count 0 cell cells)

pub board_few : (board : Board) → IsBoard board → length (runs_of board.cells) ≤ 2 * board.standing + 1
board_few board is = omega (arith, runs_most board.cells, is.changes)

pub ruleset runs_facts = (runs_follow, board_minislots, runs_differ, board_few)
