-- Inside the crate, and of no use to a reader of the promise: a board as its assignments and the holes between them.
use Rattle.std.specs.Prelude.{◌≡◌, ℕ, zero, suc, ◌+◌, ◌*◌, ◌-◌, ◌/◌, ◌%◌, ◌^◌, ◌<◌, ◌≤◌, nat_le, nat_lt, nat_eq, ◌==◌, max, Bool, ◌&&◌, ◌||◌, if◌then◌else◌, List, [], ◌∷◌, ◌++◌, length, take, drop, replicate, slice_index_or, Option, Some, None}
use Rattle.std.specs.List.{insert, remove}
use Rattle.us_holes.specs.Boards.{Owner, Holder, Board, Assignment, max_assignments, max_minislots, free_count}
use Rattle.us_holes.specs.Runs.{Run, end_of, InOrder, runs_between}
use Rattle.us_holes.specs.Kept.{IsBoard}

-- Assignments by start.

-- an assignment that is kept as a word, with SID, IUC and start in 14, 4 and 14 bits, and by how many minislots it has
abbrev pub assignment_of : ℕ → ℕ → Assignment
assignment_of word slots = record {
  start = word % 2 ^ 14;
  slots = slots;
  owner = record { sid = word / 2 ^ 18; iuc = word / 2 ^ 14 % 2 ^ 4 };
}

abbrev pub its_holder : Assignment → Holder
its_holder one = record { start = one.start; owner = one.owner }

-- the minislots from `from` to `to`
unfoldable pub cells_of : ℕ → List Assignment → ℕ → List (Option Holder)
cells_of from [] to = replicate (to - from) None
cells_of from (one ∷ more) to =
    replicate (one.start - from) None ++ (replicate one.slots (Some (its_holder one)) ++ cells_of (end_of one) more to)

abbrev pub board_of : List Assignment → ℕ → Board
board_of assigned len = record { cells = cells_of 0 assigned len; standing = length assigned }

-- how many begin no later
unfoldable pub place_among : ℕ → List Assignment → ℕ
place_among start [] = 0
place_among start (one ∷ more) = if nat_lt start one.start then 0 else suc (place_among start more)

-- one more
abbrev pub put : Assignment → List Assignment → List Assignment
put one assigned = insert assigned (place_among one.start assigned) one

-- several, one after another
unfoldable pub put_all : List Assignment → List Assignment → List Assignment
put_all assigned [] = assigned
put_all assigned (one ∷ more) = put_all (put one assigned) more

-- assignments in the order in which they were put, by start
abbrev pub by_start : List Assignment → List Assignment
by_start placed = put_all [] placed

-- the one that begins at a minislot
unfoldable pub beginning : ℕ → List Assignment → Option Assignment
beginning start [] = None
beginning start (one ∷ more) = if nat_eq one.start start then Some one else beginning start more

-- the number at the first minislot of an assignment is that of its place
pub record IsFound (one : Assignment) (placed : List Assignment) (numbers : List ℕ) : Type 0 where
  pub inside : slice_index_or numbers one.start 0 < length placed
  pub is : (none : Assignment) → one ≡ slice_index_or placed (slice_index_or numbers one.start 0) none

unfoldable pub AreFound : List Assignment → List Assignment → List ℕ → Type 0
AreFound [] placed numbers = Unit {0}
AreFound (one ∷ more) placed numbers = IsFound one placed numbers × AreFound more placed numbers

-- What is kept of assignments.
pub record AreKept (placed : List Assignment) (numbers : List ℕ) : Type 0 where
  pub minislots : length numbers ≡ max_minislots
  pub order : InOrder 0 (by_start placed) max_minislots
  pub found : AreFound (by_start placed) placed numbers

-- an assignment, where it has a minislot
abbrev pub one_from : ℕ → ℕ → Owner → List Assignment
one_from start slots owner = if slots == 0 then [] else record { start = start; slots = slots; owner = owner } ∷ []

-- Holes by start.

-- idle minislots between held ones, or the ends of the board
pub record Hole : Type 0 where
  pub start : ℕ
  pub slots : ℕ

abbrev pub hole_end : Hole → ℕ
hole_end hole = hole.start + hole.slots

abbrev pub hole_from : ℕ → ℕ → Hole
hole_from from to = record { start = from; slots = to - from }

-- a hole has a minislot
abbrev pub hole_in : ℕ → ℕ → List Hole
hole_in from to = if nat_lt from to then hole_from from to ∷ [] else []

-- the holes from `from` to `to`
unfoldable pub holes_of : ℕ → List Assignment → ℕ → List Hole
holes_of from [] to = hole_in from to
holes_of from (one ∷ more) to = hole_in from one.start ++ holes_of (end_of one) more to

abbrev pub run_of_hole : Hole → Run
run_of_hole hole = record { start = hole.start; len = hole.slots; owner = None }

-- where the first of these holes begins; where there is none, the end
abbrev pub first_start : List Hole → ℕ → ℕ
first_start [] to = to
first_start (hole ∷ more) to = hole.start

-- each has a minislot and ends before the next begins, and the first begins at `from` or behind
unfoldable pub AreApart : ℕ → List Hole → Type 0
AreApart from [] = Unit {0}
AreApart from (hole ∷ more) = (from ≤ hole.start) × (0 < hole.slots) × AreApart (hole_end hole) more

-- a hole has this start in it, not behind the window, and as many minislots from there on
abbrev pub fits_in : Hole → ℕ → ℕ → ℕ → Bool
fits_in hole start to slots = nat_le start to && nat_le (start + slots) (hole_end hole)

-- the first hole where so many minislots fit from a start in the window on: its place, the first of which is `place`,
-- and that start
unfoldable pub fit : ℕ → ℕ → ℕ → ℕ → List Hole → Option (ℕ × ℕ)
fit place from to slots [] = None
fit place from to slots (hole ∷ more) =
    if fits_in hole (max from hole.start) to slots then Some (place, max from hole.start)
    else fit (place + 1) from to slots more

-- the hole of this number has `slots` minislots from `from` on
pub record HasAt (holes : List Hole) (number from slots : ℕ) : Type 0 where
  pub inside : number < length holes
  pub above : (none : Hole) → (slice_index_or holes number none).start ≤ from
  pub below : (none : Hole) → from + slots ≤ hole_end (slice_index_or holes number none)

-- what is left of the hole at this place
unfoldable pub narrowed_at : ℕ → ℕ → ℕ → List Hole → List Hole
narrowed_at place start slots [] = []
narrowed_at zero start slots (hole ∷ more) = hole_in hole.start start ++ (hole_in (start + slots) (hole_end hole) ++ more)
narrowed_at (suc place) start slots (hole ∷ more) = hole ∷ narrowed_at place start slots more

-- Holes by rank: the longest first, and of those as long the earliest.

abbrev pub is_before : Hole → Hole → Bool
is_before one other = nat_lt other.slots one.slots || (nat_eq one.slots other.slots && nat_lt one.start other.start)

-- how many are before it
unfoldable pub place_for : Hole → List Hole → ℕ
place_for hole [] = 0
place_for hole (one ∷ more) = if is_before one hole then suc (place_for hole more) else 0

-- one more, and one fewer
abbrev pub rise : Hole → List Hole → List Hole
rise hole ranked = insert ranked (place_for hole ranked) hole

abbrev pub lift : Hole → List Hole → List Hole
lift hole ranked = remove ranked (place_for hole ranked)

-- one in the stead of the one at this place
abbrev pub sunk : ℕ → Hole → List Hole → List Hole
sunk place hole ranked = take place ranked ++ rise hole (drop (suc place) ranked)

unfoldable pub rank : List Hole → List Hole
rank [] = []
rank (hole ∷ more) = rise hole (rank more)

-- one more, where it has a minislot
abbrev pub rise_in : ℕ → ℕ → List Hole → List Hole
rise_in from to ranked = if nat_lt from to then rise (hole_from from to) ranked else ranked

-- what is left of a hole in its place
abbrev pub rank_narrowed : Hole → ℕ → ℕ → List Hole → List Hole
rank_narrowed hole start slots ranked = rise_in hole.start start (rise_in (start + slots) (hole_end hole) (lift hole ranked))

-- each stands where it would be put
unfoldable pub InRank : List Hole → Type 0
InRank [] = Unit {0}
InRank (one ∷ more) = (place_for one more ≡ 0) × InRank more

-- a hole as one number, of which the greater is before the other
abbrev pub key_of : Hole → ℕ
key_of hole = hole.slots * 65536 + (65535 - hole.start)

abbrev pub hole_of_key : ℕ → Hole
hole_of_key key = record { start = 65535 - key % 65536; slots = key / 65536 }

abbrev pub first_in : List Hole → Option (ℕ × ℕ)
first_in [] = None
first_in (hole ∷ more) = Some (hole.start, hole.slots)

-- What the fields of a board are.
pub record AreLists (assigned : List Assignment) (holes ranked : List Hole) (len free : ℕ) : Type 0 where
  pub board : IsBoard (board_of assigned len)
  pub order : InOrder 0 assigned len
  pub between : holes ≡ holes_of 0 assigned len
  pub by_rank : ranked ≡ rank holes
  pub idle : free ≡ free_count (cells_of 0 assigned len)

-- There is room for one hole more than assignments, wherever these are.
pub record HaveRoom (for_holes for_ranked : ℕ) : Type 0 where
  pub holes : max_assignments + 1 ≤ for_holes
  pub ranked : max_assignments + 1 ≤ for_ranked

-- A walk along a board.

-- the assignments that begin at a minislot or behind it
unfoldable pub begun_from : ℕ → List Assignment → List Assignment
begun_from from [] = []
begun_from from (one ∷ more) = if nat_lt one.start from then begun_from from more else one ∷ more

-- the runs from a minislot on, of assignments in the order in which they were put
abbrev pub runs_left : List Assignment → ℕ → ℕ → List Run
runs_left placed from len = runs_between from (begun_from from (by_start placed)) len

-- What it knows where it stands: a run begins there, or the board ends, and the next hole has this number.
pub record IsWalk (placed : List Assignment) (numbers : List ℕ) (holes : List Hole) (len from next idle_from : ℕ) : Type 0 where
  pub kept : AreKept placed numbers
  pub most : len ≤ max_minislots
  pub order : InOrder from (begun_from from (by_start placed)) len
  pub rest : drop next holes ≡ holes_of from (begun_from from (by_start placed)) len
  pub idle : idle_from ≡ first_start (drop next holes) len
