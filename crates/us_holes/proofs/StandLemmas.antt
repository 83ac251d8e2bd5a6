-- What stands on a board after assignments that all fit: each minislot is held by the one assignment that covers it.
use Rattle.std.proofs.Common.{◌≡◌, ℕ, zero, suc, ◌+◌, ◌<◌, ◌≤◌, ◌⊎◌, List, [], ◌∷◌, length, get_or, true, Option, Some, None, refl, sym, ◌∙◌, inl, inr, arith}
use Rattle.std.specs.List.{Contains}
use Rattle.us_holes.specs.Boards.{Holder, Board, Assignment, empty_board, fits, assign, assign_all, AllFit}
use Rattle.us_holes.specs.Kept.{cell_at}
use Rattle.us_holes.proofs.BoardLemmas.{cell-written, cell_outside, idle_cell, where_is, nobody_holds}
use Rattle.us_holes.proofs.LawLemmas.{fit}

-- the minislots of an assignment, and who holds them
abbrev pub Covers : Assignment → ℕ → Type 0
Covers assignment at = (assignment.start ≤ at) × (at < assignment.start + assignment.slots)

abbrev pub holder_in : Assignment → Holder
holder_in assignment = record { start = assignment.start; owner = assignment.owner }

-- a holder's assignment is one of these, and covers the minislot
abbrev pub IsHeldBy : List Assignment → ℕ → Holder → Type 0
IsHeldBy assignments at holder =
    (assignment : Assignment) × Contains assignments assignment × Covers assignment at × (holder ≡ holder_in assignment)

-- no minislot is covered by two
unfoldable pub Apart : List Assignment → Type 0
Apart [] = Unit {0}
Apart (one ∷ more) =
    ((other : Assignment) (at : ℕ) → Contains more other → Covers one at → Covers other at → ⊥) × Apart more

-- these assignments, on minislots that were idle before
pub record Stands (before cells : List (Option Holder)) (assignments : List Assignment) : Type 0 where
  -- each holds its minislots, which were idle,
  pub held : (assignment : Assignment) (at : ℕ) → Contains assignments assignment → Covers assignment at →
      cell_at cells at ≡ Some (holder_in assignment)
  pub idle : (assignment : Assignment) (at : ℕ) → Contains assignments assignment → Covers assignment at → cell_at before at ≡ None
  -- what was held stays,
  pub kept : (at : ℕ) (holder : Holder) → cell_at before at ≡ Some holder → cell_at cells at ≡ Some holder
  -- nothing else is held,
  pub told : (at : ℕ) (holder : Holder) → cell_at cells at ≡ Some holder →
      (cell_at before at ≡ Some holder) ⊎ IsHeldBy assignments at holder
  -- and none is in another's place
  pub apart : Apart assignments

-- An element of a list is the first, or one of the others.
contains_first : (i : Assignment) (more : List Assignment) → Contains (i ∷ more) i
contains_first i more = (0, omega arith, refl)

contains_later : (i : Assignment) (more : List Assignment) (one : Assignment) → Contains more one → Contains (i ∷ more) one
contains_later i more one h = (suc h.0, omega (arith, h.1), h.2)

contains_at : (i : Assignment) (more : List Assignment) (one : Assignment) (k : ℕ) → k < length (i ∷ more) →
    get_or (i ∷ more) k one ≡ one → (i ≡ one) ⊎ Contains more one
contains_at i more one zero inside is = inl is
contains_at i more one (suc k) inside is = inr (k, omega (arith, inside), is)

contains_cases : (i : Assignment) (more : List Assignment) (one : Assignment) → Contains (i ∷ more) one →
    (i ≡ one) ⊎ Contains more one
contains_cases i more one h = contains_at i more one h.0 h.1 h.2

-- One assignment at a fit.
record StandsAlone (board : Board) (i : Assignment) : Type 0 where
  held : (at : ℕ) → Covers i at → cell_at (assign board i.start i.slots i.owner).cells at ≡ Some (holder_in i)
  idle : (at : ℕ) → Covers i at → cell_at board.cells at ≡ None
  others : (at : ℕ) → (at < i.start) ⊎ (i.start + i.slots ≤ at) →
      cell_at (assign board i.start i.slots i.owner).cells at ≡ cell_at board.cells at

stands_alone : (board : Board) (i : Assignment) → fits board i.slots i.start ≡ true → StandsAlone board i
stands_alone board i h =
    let known = fit board i.slots i.start h in
    record {
      held = λ at covers.
          cell-written i.start i.slots at (Some (holder_in i)) board.cells known.inside covers.0 covers.1;
      idle = λ at covers. idle_cell board.cells i.slots i.start at known.idle covers.0 covers.1;
      others = λ at outside. cell_outside i.start i.slots at (Some (holder_in i)) board.cells known.inside outside;
    }

some_none : (holder : Holder) (cell : Option Holder) → cell ≡ None → cell ≡ Some holder → ⊥
some_none holder cell none some = cc

-- what was held before one assignment is held after it,
kept_one : (board : Board) (i : Assignment) → StandsAlone board i → (at : ℕ) (holder : Holder) →
    cell_at board.cells at ≡ Some holder → cell_at (assign board i.start i.slots i.owner).cells at ≡ Some holder
kept_one board i one at holder e = elim (where_is i.start i.slots at) [
  | inl here ↦ absurd (some_none holder (cell_at board.cells at) (one.idle at here) e)
  | inr outside ↦ one.others at outside ∙ e
]

-- and what is idle after it was idle before.
idle_one : (board : Board) (i : Assignment) → StandsAlone board i → (at : ℕ) →
    cell_at (assign board i.start i.slots i.owner).cells at ≡ None → cell_at board.cells at ≡ None
idle_one board i one at e = elim (where_is i.start i.slots at) [
  | inl here ↦ one.idle at here
  | inr outside ↦ sym (one.others at outside) ∙ e
]

the_holder : (one other : Holder) → Some one ≡ Some other → one ≡ other
the_holder one other e = cc

told_one : (board : Board) (i : Assignment) (more : List Assignment) → StandsAlone board i → (at : ℕ) (holder : Holder) →
    cell_at (assign board i.start i.slots i.owner).cells at ≡ Some holder →
    (cell_at board.cells at ≡ Some holder) ⊎ IsHeldBy (i ∷ more) at holder
told_one board i more one at holder e = elim (where_is i.start i.slots at) [
  | inl here ↦
      inr (i, contains_first i more, here, sym (the_holder (holder_in i) holder (sym (one.held at here) ∙ e)))
  | inr outside ↦ inl (sym (one.others at outside) ∙ e)
]

stand_more : (board : Board) (i : Assignment) (more : List Assignment) (cells : List (Option Holder)) → StandsAlone board i →
    Stands (assign board i.start i.slots i.owner).cells cells more → Stands board.cells cells (i ∷ more)
unfolding Apart
stand_more board i more cells first rest = record {
  held = λ assignment at one covers. held assignment at covers (contains_cases i more assignment one);
  idle = λ assignment at one covers. idle assignment at covers (contains_cases i more assignment one);
  kept = λ at holder e. rest.kept at holder (kept_one board i first at holder e);
  told = λ at holder e. told at holder (rest.told at holder e);
  apart = (
    λ other at one mine others.
        some_none (holder_in i) (cell_at next.cells at) (rest.idle other at one others) (first.held at mine),
    rest.apart,
  );
}
  where
    next : Board
    next = assign board i.start i.slots i.owner

    held : (assignment : Assignment) (at : ℕ) → Covers assignment at → (i ≡ assignment) ⊎ Contains more assignment →
        cell_at cells at ≡ Some (holder_in assignment)
    held assignment at covers (inl same) =
        rw (sym same) (rest.kept at (holder_in i) (first.held at (rw (sym same) at covers)))
    held assignment at covers (inr later) = rest.held assignment at later covers

    idle : (assignment : Assignment) (at : ℕ) → Covers assignment at → (i ≡ assignment) ⊎ Contains more assignment →
        cell_at board.cells at ≡ None
    idle assignment at covers (inl same) = first.idle at (rw (sym same) at covers)
    idle assignment at covers (inr later) = idle_one board i first at (rest.idle assignment at later covers)

    told : (at : ℕ) (holder : Holder) → (cell_at next.cells at ≡ Some holder) ⊎ IsHeldBy more at holder →
        (cell_at board.cells at ≡ Some holder) ⊎ IsHeldBy (i ∷ more) at holder
    told at holder (inl before) = told_one board i more first at holder before
    told at holder (inr later) = inr (later.0, contains_later i more later.0 later.1, later.2, later.3)

pub all_stand : (board : Board) (assignments : List Assignment) → AllFit board assignments →
    Stands board.cells (assign_all board assignments).cells assignments
unfolding assign_all AllFit Apart
all_stand board [] h = record {
  held = λ assignment at one covers. absurd (omega (arith, one.1));
  idle = λ assignment at one covers. absurd (omega (arith, one.1));
  kept = λ at holder e. e;
  told = λ at holder e. inl e;
  apart = tt;
}
all_stand board (i ∷ more) h =
    let next : Board = assign board i.start i.slots i.owner in
    stand_more board i more (assign_all next more).cells (stands_alone board i h.0) (all_stand next more h.1)

-- On a board that was idle: each minislot is held by the one assignment that covers it, or is idle.
pub stand_on_empty : (len : ℕ) (assignments : List Assignment) → AllFit (empty_board len) assignments →
    (at : ℕ) (holder : Holder) → cell_at (assign_all (empty_board len) assignments).cells at ≡ Some holder →
    IsHeldBy assignments at holder
stand_on_empty len assignments h at holder e =
    elim ((all_stand (empty_board len) assignments h).told at holder e) [
      | inl before ↦ absurd (some_none holder (cell_at (empty_board len).cells at) (nobody_holds len at) before)
      | inr held ↦ held
    ]
