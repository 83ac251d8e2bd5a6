-- Laws of boards.
use Rattle.std.specs.Prelude.{◌≡◌, ℕ, ◌<◌, List, IsPermutation}
use Rattle.std.specs.List.{AllByRecursion}
use Rattle.us_holes.specs.Boards.{Assignment, empty_board, assign_all, AllFit}
use Rattle.us_holes.specs.Runs.{runs_of, InOrder, runs_between}

-- the same assignments by their starts: they are apart and inside, and the runs of the board are they and the gaps between
-- them
pub record StandInOrder (len : ℕ) (assigned ordered : List Assignment) : Type 0 where
  pub same : IsPermutation assigned ordered
  pub order : InOrder 0 ordered len
  pub runs : runs_of (assign_all (empty_board len) assigned).cells ≡ runs_between 0 ordered len

-- assignments that fitted, one after another and each with a minislot, on `len` idle minislots stand in order
abbrev pub AssignmentsStandInOrder : Type 0
AssignmentsStandInOrder = (len : ℕ) (assigned : List Assignment) → AllFit (empty_board len) assigned →
    AllByRecursion (λ one. 0 < one.slots) assigned → (ordered : List Assignment) × StandInOrder len assigned ordered
