-- Runs: the minislots of a MAP as they follow on, one run for each assignment and one for each gap (ours).
use Rattle.std.specs.Prelude.{◌≡◌, ℕ, ◌+◌, ◌-◌, ◌<◌, ◌≤◌, nat_eq, nat_lt, Bool, false, ◌&&◌, if◌then◌else◌, List, [], ◌∷◌, ◌++◌, replicate, Option, Some, None}
use Rattle.std.specs.Option.{option_eq}
use Rattle.us_holes.specs.Boards.{Owner, Holder, Assignment}

-- a run: minislots side by side that one assignment holds, or that are idle (`None`), as many as there are
pub record Run : Type 0 where
  pub start : ℕ
  pub len : ℕ
  pub owner : Option Owner

-- one assignment: the start, the SID and the IUC are the same
abbrev pub same_holder : Holder → Holder → Bool
same_holder one other =
    nat_eq one.start other.start && (nat_eq one.owner.sid other.owner.sid && nat_eq one.owner.iuc other.owner.iuc)

abbrev pub same_cell : Option Holder → Option Holder → Bool
same_cell one other = option_eq same_holder one other

-- the minislot behind this one has the same holder, or is idle as it is
abbrev pub goes_on : Option Holder → List (Option Holder) → Bool
goes_on cell [] = false
goes_on cell (next ∷ cells) = same_cell cell next

abbrev pub owner_of : Option Holder → Option Owner
owner_of None = None
owner_of (Some holder) = Some holder.owner

-- the first run, from one minislot earlier on
abbrev pub lengthened : List Run → List Run
lengthened [] = []
lengthened (run ∷ runs) = record run { start = run.start - 1; len = run.len + 1 } ∷ runs

-- the runs of these minislots, the first of which is number `start`
unfoldable pub runs_from : ℕ → List (Option Holder) → List Run
runs_from start [] = []
runs_from start (cell ∷ cells) =
    if goes_on cell cells then lengthened (runs_from (start + 1) cells)
    else record { start = start; len = 1; owner = owner_of cell } ∷ runs_from (start + 1) cells

abbrev pub runs_of : List (Option Holder) → List Run
runs_of cells = runs_from 0 cells

-- runs follow on without a gap from `from` up to `to`, and each has a minislot
unfoldable pub FollowOn : ℕ → ℕ → List Run → Type 0
FollowOn from to [] = from ≡ to
FollowOn from to (run ∷ runs) = (run.start ≡ from) × (0 < run.len) × FollowOn (run.start + run.len) to runs

-- who holds the minislots of a run: an assignment that starts where the run does
abbrev pub holder_of : ℕ → Option Owner → Option Holder
holder_of start None = None
holder_of start (Some owner) = Some (record { start = start; owner = owner })

abbrev pub minislots_of : Run → List (Option Holder)
minislots_of run = replicate run.len (holder_of run.start run.owner)

-- runs side by side have different holders
unfoldable pub Differ : List Run → Type 0
Differ [] = Unit {0}
Differ (run ∷ []) = Unit {0}
Differ (run ∷ next ∷ runs) =
    (same_cell (holder_of run.start run.owner) (holder_of next.start next.owner) ≡ false) × Differ (next ∷ runs)

-- Assignments by start, and the runs that are made of them and of the gaps between them.

-- the minislot behind an assignment
abbrev pub end_of : Assignment → ℕ
end_of one = one.start + one.slots

-- none begins before the one before it ends, all lie from `from` to `to`, and each has a minislot
unfoldable pub InOrder : ℕ → List Assignment → ℕ → Type 0
InOrder from [] to = from ≤ to
InOrder from (one ∷ more) to = (from ≤ one.start) × (0 < one.slots) × InOrder (end_of one) more to

abbrev pub run_of : Assignment → Run
run_of one = record { start = one.start; len = one.slots; owner = Some one.owner }

-- a gap has a minislot
abbrev pub idle_run : ℕ → ℕ → List Run
idle_run from to = if nat_lt from to then record { start = from; len = to - from; owner = None } ∷ [] else []

-- the runs from `from` to `to`
unfoldable pub runs_between : ℕ → List Assignment → ℕ → List Run
runs_between from [] to = idle_run from to
runs_between from (one ∷ more) to = idle_run from one.start ++ (run_of one ∷ runs_between (end_of one) more to)
