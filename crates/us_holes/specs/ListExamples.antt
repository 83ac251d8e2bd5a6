-- Inside the crate, and of no use to a reader of the promise: a board as lists, computed by the definitions alone.
use Rattle.std.specs.Prelude.{◌≡◌, ℕ, List, [], ◌∷◌, Some, None, refl}
use Rattle.us_holes.specs.Boards.{Owner, Assignment}
use Rattle.us_holes.specs.Examples.{broadcast, grant, granted}
use Rattle.us_holes.specs.Runs.{runs_of, runs_from, runs_between}
use Rattle.us_holes.specs.Lists.{cells_of, board_of, place_among, put, put_all, by_start, beginning, Hole, holes_of, fit, narrowed_at, place_for, rank, rank_narrowed, key_of, hole_of_key, first_in}

abbrev assignment : ℕ → ℕ → Owner → Assignment
assignment start slots owner = record { start = start; slots = slots; owner = owner }

abbrev hole : ℕ → ℕ → Hole
hole start slots = record { start = start; slots = slots }

abbrev assigned : List Assignment
assigned = assignment 2 2 grant ∷ assignment 6 2 broadcast ∷ []

same_board : board_of assigned 8 ≡ granted
unfolding cells_of
same_board = refl

two_holes : holes_of 0 assigned 8 ≡ hole 0 2 ∷ hole 4 2 ∷ []
unfolding holes_of
two_holes = refl

-- put in another order, they are the same by start
same_by_start : by_start (assignment 6 2 broadcast ∷ assignment 2 2 grant ∷ []) ≡ assigned
unfolding put_all place_among
same_by_start = refl

begins_here : beginning 6 assigned ≡ Some (assignment 6 2 broadcast)
unfolding beginning
begins_here = refl

none_begins : beginning 7 assigned ≡ None
unfolding beginning
none_begins = refl

-- the second hole, though the window starts before it
first_fit : fit 0 1 7 2 (holes_of 0 assigned 8) ≡ Some (1, 4)
unfolding fit holes_of
first_fit = refl

-- one minislot is left of it
one_left : narrowed_at 1 4 1 (holes_of 0 assigned 8) ≡ hole 0 2 ∷ hole 5 1 ∷ []
unfolding narrowed_at holes_of
one_left = refl

same_holes : holes_of 0 (put (assignment 4 1 grant) assigned) 8 ≡ hole 0 2 ∷ hole 5 1 ∷ []
unfolding holes_of place_among
same_holes = refl

-- the longest first, and of two as long the earlier
ranked : rank (hole 0 1 ∷ hole 2 3 ∷ hole 6 1 ∷ hole 8 3 ∷ []) ≡ hole 2 3 ∷ hole 8 3 ∷ hole 0 1 ∷ hole 6 1 ∷ []
unfolding rank place_for
ranked = refl

-- a minislot in its middle leaves two of the first
ranked_again : rank_narrowed (hole 2 3) 3 1 (hole 2 3 ∷ hole 8 3 ∷ hole 0 1 ∷ []) ≡
    hole 8 3 ∷ hole 0 1 ∷ hole 2 1 ∷ hole 4 1 ∷ []
unfolding place_for
ranked_again = refl

as_number : key_of (hole 2 3) ≡ 262141
as_number = refl

as_hole : hole_of_key 262141 ≡ hole 2 3
as_hole = refl

first_ranked : first_in (hole 2 3 ∷ hole 8 3 ∷ []) ≡ Some (2, 3)
first_ranked = refl

same_runs : runs_between 0 assigned 8 ≡ runs_of granted.cells
unfolding runs_between runs_from
same_runs = refl
