-- Placements: an assignment goes to the earliest start of a window where it fits (ours).
use Rattle.std.specs.Prelude.{◌≡◌, ℕ, ◌+◌, ◌≤◌, true, false, if◌then◌else◌, length, Option, Some, None}
use Rattle.us_holes.specs.Boards.{Owner, Board, is_full, is_idle_at, fits, assign, least_fit, IsLeastWithin}
use Rattle.us_holes.specs.declared.placements.Placed.{Placed}
use Rattle.us_holes.specs.declared.placements.Placed.TheVariants as answer

-- the answer, by the least start that fits
abbrev pub answer_at : ℕ → Option ℕ → Placed
answer_at slots None = answer.NoRoom
answer_at slots (Some start) = answer.At start slots

-- the answer to `slots` minislots that are to start from `from` to `to`: a full board is told before want of room
abbrev pub placed : Board → ℕ → ℕ → ℕ → Placed
placed board from to slots = if is_full board then answer.Full else answer_at slots (least_fit board from to slots)

-- what stands after an answer: one more assignment, or the board as it was
abbrev pub after_placing : Board → Owner → Placed → Board
after_placing board owner (answer.At start slots) = assign board start slots owner
after_placing board owner answer.Full = board
after_placing board owner answer.NoRoom = board

-- the least start of a window where an assignment fits, which lies inside
pub record IsPlacedAt (board : Board) (from to slots start : ℕ) : Type 0 where
  pub least : IsLeastWithin (fits board slots) from to start
  pub idle : is_idle_at board.cells slots start ≡ true
  pub inside : start + slots ≤ length board.cells

-- there may be one more assignment, and no start of the window has so many idle minislots behind it
pub record HasNoRoom (board : Board) (from to slots : ℕ) : Type 0 where
  pub few : is_full board ≡ false
  pub none : (start : ℕ) → from ≤ start → start ≤ to → is_idle_at board.cells slots start ≡ false

-- what an answer says of the board before, told as a property
abbrev pub Says : Board → ℕ → ℕ → ℕ → Placed → Type 0
Says board from to slots (answer.At start many) = (many ≡ slots) × IsPlacedAt board from to slots start
Says board from to slots answer.Full = is_full board ≡ true
Says board from to slots answer.NoRoom = HasNoRoom board from to slots
