-- Small boards, computed by the definitions alone.
use Rattle.std.specs.Prelude.{◌≡◌, ℕ, [], ◌∷◌, true, false, Option, Some, None, refl}
use Rattle.us_holes.specs.Boards.{Owner, Holder, Board, empty_board, is_idle_at, assign, ends_held, free_count, first_of, least_fit, longest_up_to, longest_idle}
use Rattle.us_holes.specs.Placements.{placed, after_placing}
use Rattle.us_holes.specs.Runs.{Run, runs_from, runs_of}
use Rattle.us_holes.specs.Kept.{begun, changes}
use Rattle.us_holes.specs.declared.placements.Placed.TheVariants as answer

-- a broadcast request
abbrev pub broadcast : Owner
broadcast = record { sid = 16383; iuc = 1 }

-- a long data grant
abbrev pub grant : Owner
grant = record { sid = 291; iuc = 10 }

-- 8 minislots, of which the last 2 are a contention reserve
abbrev pub reserved : Board
reserved = assign (empty_board 8) 6 2 broadcast

-- and 2 from minislot 2 on are a grant
abbrev pub granted : Board
granted = assign reserved 2 2 grant

-- ends of no minislots are no assignment
ends : (ends_held 8 0 grant 2 broadcast ≡ reserved) × (ends_held 8 0 grant 0 broadcast ≡ empty_board 8)
ends = (refl, refl)

abbrev held : ℕ → Owner → Option Holder
held start owner = Some (record { start = start; owner = owner })

cells : granted.cells ≡
    None ∷ None ∷ held 2 grant ∷ held 2 grant ∷ None ∷ None ∷ held 6 broadcast ∷ held 6 broadcast ∷ []
cells = refl

idle_count : free_count granted.cells ≡ 4
idle_count = refl

-- 6 minislots are idle from minislot 0 on, and not from minislot 1 on
all_idle : is_idle_at reserved.cells 6 0 ≡ true
all_idle = refl

one_held : is_idle_at reserved.cells 6 1 ≡ false
one_held = refl

-- idle minislots end with the board
past_end : is_idle_at (empty_board 8).cells 2 7 ≡ false
past_end = refl

least_start : least_fit granted 0 7 2 ≡ Some 0
unfolding first_of
least_start = refl

-- the least in a window, which may end behind the window
least_start_within : placed granted 1 4 2 ≡ answer.At 4 2
unfolding first_of
least_start_within = refl

no_start : placed granted 0 7 3 ≡ answer.NoRoom
unfolding first_of
no_start = refl

-- a window of starts, though there is room before it
no_start_within : placed granted 5 7 2 ≡ answer.NoRoom
unfolding first_of
no_start_within = refl

-- as many assignments as there may be: that is told first, though there is no room either
abbrev full : Board
full = record granted { standing = 100 }

told_first : placed full 0 7 3 ≡ answer.Full
told_first = refl

nothing_placed : after_placing granted grant answer.NoRoom ≡ granted
nothing_placed = refl

-- the first of two
first_longest : longest_idle granted.cells ≡ Some (0, 2)
unfolding longest_up_to first_of
first_longest = refl

abbrev run : ℕ → ℕ → Option Owner → Run
run start len owner = record { start = start; len = len; owner = owner }

all_runs : runs_of granted.cells ≡
    run 0 2 None ∷ run 2 2 (Some grant) ∷ run 4 2 None ∷ run 6 2 (Some broadcast) ∷ []
unfolding runs_from
all_runs = refl

-- assignments side by side stay two runs, though they have one owner
two_runs : runs_of (assign (assign (empty_board 4) 0 2 broadcast) 2 2 broadcast).cells ≡
    run 0 2 (Some broadcast) ∷ run 2 2 (Some broadcast) ∷ []
unfolding runs_from
two_runs = refl

-- two assignments begin, and one side by side with another of its owner too
two_begin : begun 0 granted.cells ≡ 2
unfolding begun
two_begin = refl

both_begin : begun 0 (assign (assign (empty_board 4) 0 2 broadcast) 2 2 broadcast).cells ≡ 2
unfolding begun
both_begin = refl

-- on idle minislots none does
none_begins : begun 0 (empty_board 8).cells ≡ 0
unfolding begun
none_begins = refl

three_changes : changes granted.cells ≡ 3
unfolding changes
three_changes = refl
