-- What every board keeps that is made by assignments.
use Rattle.std.specs.Prelude.{◌≡◌, ℕ, ◌+◌, ◌*◌, ◌≤◌, nat_eq, Bool, false, if◌then◌else◌, List, [], ◌∷◌, length, slice_index_or, Option, Some, None}
use Rattle.us_holes.specs.Boards.{Holder, Board, max_assignments, max_minislots}
use Rattle.us_holes.specs.Runs.{same_cell}

-- who holds a minislot; `None` where it is idle, and behind the last
abbrev pub cell_at : List (Option Holder) → ℕ → Option Holder
cell_at cells at = slice_index_or cells at None

-- a held minislot is not before the start of its assignment, which holds all minislots from there on to this one: so
-- the minislots of an assignment stand side by side, and the first of them is where it starts
abbrev pub AreHeldFromStart : List (Option Holder) → Type 0
AreHeldFromStart cells = (at : ℕ) (holder : Holder) → cell_at cells at ≡ Some holder →
    (holder.start ≤ at) ×
    ((between : ℕ) → holder.start ≤ between → between ≤ at → cell_at cells between ≡ Some holder)

-- a minislot of this number begins an assignment where its holder starts there
abbrev pub begins : ℕ → Option Holder → Bool
begins at None = false
begins at (Some holder) = nat_eq holder.start at

-- how many of these minislots, the first of which is number `at`, begin an assignment
unfoldable pub begun : ℕ → List (Option Holder) → ℕ
begun at [] = 0
begun at (cell ∷ cells) = (if begins at cell then 1 else 0) + begun (at + 1) cells

-- the places where the holder changes from one minislot to the next
unfoldable pub changes : List (Option Holder) → ℕ
changes [] = 0
changes (one ∷ []) = 0
changes (one ∷ other ∷ cells) = (if same_cell one other then 0 else 1) + changes (other ∷ cells)

pub record IsBoard (board : Board) : Type 0 where
  pub some : 1 ≤ length board.cells
  pub most : length board.cells ≤ max_minislots
  pub standing : board.standing ≤ max_assignments
  -- as many assignments stand as begin
  pub begun : begun 0 board.cells ≡ board.standing
  pub held : AreHeldFromStart board.cells
  -- an assignment brings at most its two ends
  pub changes : changes board.cells ≤ 2 * board.standing
