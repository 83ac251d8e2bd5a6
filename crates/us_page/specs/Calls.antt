-- What a caller that isn't Rattle is answered (ours): by a status, and by what its hand holds then.
use Rattle.std.specs.Prelude.{◌≡◌, ◌⊎◌, ℕ, List, [], ◌++◌, length, take, drop, Option, Some, None}
use Rattle.us_fault_lines.specs.Lines.{memory_line}
use Rattle.us_page.specs.declared.faults.PageFault.{PageFault}
use Rattle.us_page.specs.declared.faults.PageFault.TheVariants as page
use Rattle.us_page.specs.declared.calls.Status.{Status}
use Rattle.us_page.specs.declared.calls.Status.TheVariants as status
use Rattle.us_page.specs.Runs.{Run, IsGiven, IsRefused, refused_by}

-- the number of a status
abbrev pub code_of : Status → ℕ
code_of status.Given = 0
code_of status.NoMemory = 1
code_of status.Config = 2
code_of status.Replay = 3

-- the status that tells a fault
abbrev pub status_of : PageFault → Status
status_of page.NoMemory = status.NoMemory
status_of (page.Config f) = status.Config
status_of (page.Replay f) = status.Replay

-- a fault refuses the run of two texts, is told by this status, and its line alone is held
pub record HoldsFault (config trace : List ℕ) (rounds : ℕ) (s : Status) (r : Run) : Type 0 where
  pub fault : PageFault
  pub refused : IsRefused config trace rounds fault
  pub told : s ≡ status_of fault
  pub held : r ≡ refused_by fault

-- what a hand holds behind a run of two texts: the texts of the schedule; the line of the fault; and nothing where memory
-- was wanting
abbrev pub Stands : List ℕ → List ℕ → ℕ → Status → Option Run → Type 0
Stands config trace rounds status.Given (Some r) = IsGiven config trace rounds r
Stands config trace rounds status.Config (Some r) = HoldsFault config trace rounds status.Config r
Stands config trace rounds status.Replay (Some r) = HoldsFault config trace rounds status.Replay r
Stands config trace rounds status.NoMemory None = Unit {0}
Stands config trace rounds _ _ = ⊥

-- the same by the status's number
pub record StandsAs (config trace : List ℕ) (rounds number : ℕ) (held : Option Run) : Type 0 where
  pub status_is : Status
  pub number_is : number ≡ code_of status_is
  pub stands : Stands config trace rounds status_is held

-- the maps file, the report and the line of the fault that a hand holds; of one that holds nothing the line is that
-- of want of memory
abbrev pub maps_of : Option Run → List ℕ
maps_of None = []
maps_of (Some r) = r.maps

abbrev pub report_of : Option Run → List ℕ
report_of None = []
report_of (Some r) = r.report

abbrev pub line_of : Option Run → List ℕ
line_of None = memory_line
line_of (Some r) = r.line

-- a place into which as much of a text was copied as there is room for
abbrev pub with_front : List ℕ → List ℕ → List ℕ
with_front place text = take (length place) text ++ drop (length text) place

-- a text was copied to a place, and its whole length was answered
pub record Copied (text before after : List ℕ) (answered : ℕ) : Type 0 where
  pub place_is : after ≡ with_front before text
  pub length_is : answered ≡ length text

-- Inside the crate.

-- a hand that was empty holds the run, and the status is this one; or memory was wanting, and it holds nothing
abbrev pub IsHeld : Run → Status → Status → Option Run → Type 0
IsHeld r wanted answered held =
    ((answered ≡ wanted) × (held ≡ Some r)) ⊎ ((answered ≡ status.NoMemory) × (held ≡ None))

abbrev pub IsHeldFault : PageFault → Status → Option Run → Type 0
IsHeldFault page.NoMemory answered held = (answered ≡ status.NoMemory) × (held ≡ None)
IsHeldFault f answered held = IsHeld (refused_by f) (status_of f) answered held
