-- What a judge is told, and what is answered of a report that is read for it.
use Rattle.std.specs.Prelude.{◌≡◌, ℕ, ◌*◌, ◌≤◌, List, length, sum_by, drop, filter_map, option_map, unwrap_or, Option, Some, None, Result, Ok, Err}
use Rattle.std.specs.List.{AllByRecursion}
use Rattle.std.specs.List.Sorted.{IsNonDecreasingBy, IsPermutation}
use Rattle.us_flows.specs.Tables.{Tables}
use Rattle.us_requests.specs.Traces.{TraceAsks}
use Rattle.us_output.specs.declared.rows.Row.{Row}
use Rattle.us_lawful.specs.Runs.{Run, RoundMap, run_in}
use Rattle.us_lawful.specs.Headings.{HeadingsHold}
use Rattle.us_reports.specs.declared.place.Place.{Place}
use Rattle.us_reports.specs.Reports.{IsReport, IsFirstBad}
use Rattle.us_reports.specs.ReportReaders.{row_at}
use Rattle.us_reports.specs.Breaches.{Any, IsFirstBreach, IsFirstFailure}
use Rattle.us_map_rules.specs.MapsReading.{IsMapsOf}
use Rattle.us_map_rules.specs.LackedPlaces.{IsOfLackedPlace}
use Rattle.us_map_rules.specs.Gathered as regions
use Rattle.us_map_rules.specs.RegionLines.{PlacedRegion, placed_line}
use Rattle.us_map_rules.specs.Told as calendar
use Rattle.us_credit_rules.specs.CreditLines as credits
use Rattle.us_check.specs.declared.judges.Judge.{Judge}
use Rattle.us_check.specs.declared.judging.Standing.{Standing}
use Rattle.us_reports.specs.declared.rules.Breach.{Breach}
use Rattle.us_reports.specs.declared.rules.Rule.{Rule}
use Rattle.us_check.specs.declared.faults.CheckFault.{CheckFault}
use Rattle.us_check.specs.declared.faults.CheckFault.TheVariants as fault
use Rattle.us_check.specs.Verdicts.{IsBroken}

-- each rule is told these lines, in this order, beside the MAPs of a maps file; no request is of a round behind the MAP whose
-- lines come
pub record AllAreTold (t : Tables) (v : TraceAsks) (file : List ℕ) (maps : List RoundMap) (lines : List Row) (j : Judge) :
    Type 0 where
  pub regions : regions.AreTold (run_in t v) file maps lines j.regions
  pub run : j.calendar.run ≡ run_in t v
  pub calendar : calendar.AreTold lines j.calendar
  pub credits : credits.AreKept t v lines j.credits
  pub latest : j.credits.requests.latest * length t.channels ≤ j.regions.number

-- so it is where the run has the round and the channel of each line; else the first place that it lacks is known
pub record AreTold (t : Tables) (v : TraceAsks) (file : List ℕ) (maps : List RoundMap) (lines : List Row) (j : Judge) :
    Type 0 where
  pub lacked : IsFirstFailure t.channels (Any (IsOfLackedPlace (run_in t v)) lines) j.lacked
  pub all : j.lacked ≡ None → AllAreTold t v file maps lines j

-- these lines in whatever order
abbrev pub AreSame : List Row → List Row → Type 0
AreSame lines others = (f : Row → ℕ) → sum_by f lines ≡ sum_by f others

-- a judge is told the lines of a report
pub record IsOfReport (t : Tables) (v : TraceAsks) (file report : List ℕ) (maps : List RoundMap) (j : Judge) : Type 0 where
  pub lines : List Row
  pub told : List Row
  pub read : IsReport report lines
  pub same : AreSame lines told
  pub judge : AreTold t v file maps told j

-- a rule is broken at a place, if there is one
abbrev pub broken : Rule → Option Place → Option Breach
broken rule place = option_map (λ p. record { rule = rule; place = p }) place

-- what is answered of a report that is read: this, or the first line that is none
abbrev pub Reads : {A : Type 0} → List ℕ → (A → Type 0) → Result A CheckFault → Type 0
Reads report Is (Ok answer) = Is answer
Reads report Is (Err (fault.Report line)) = IsFirstBad report line
Reads report Is (Err fault.NoMemory) = Unit {0}

-- the number of the MAP that a line is for, or 0
abbrev pub map_told : Option PlacedRegion → ℕ
map_told placed = unwrap_or (option_map (λ one. one.map) placed) 0

-- the lines that stand at places of a report
abbrev pub line_there : List ℕ → ℕ → Option Row
line_there report at = option_map (λ found. found.0) (row_at (drop at report))

abbrev pub lines_there : List ℕ → List Standing → List Row
lines_there report standings = filter_map (λ s. line_there report s.at) standings

-- the line that stands there is for the MAP of this number, or for none, and the number is 0
abbrev pub IsStanding : Tables → ℕ → List ℕ → Standing → Type 0
IsStanding t rounds report s = option_map (λ line. map_told (placed_line t rounds line)) (line_there report s.at) ≡ Some s.map

-- all lines stand at these places, which are in the order of MAPs
pub record AreStandings (t : Tables) (rounds : ℕ) (report : List ℕ) (standings : List Standing) : Type 0 where
  pub read : List Standing
  pub moved : IsPermutation read standings
  pub lines : IsReport report (lines_there report read)
  pub each : AllByRecursion (IsStanding t rounds report) standings
  pub rising : IsNonDecreasingBy (λ s. s.map) standings

-- what a maps file breaks by itself: its headings hold, or it breaks a rule first there, whatever lines a report has
abbrev pub IsMapsBreach : Run → List ℕ → Option Breach → Type 0
IsMapsBreach run file None =
    (maps : List RoundMap) × IsMapsOf file maps
    × ((lines : List Row) → IsFirstBreach run.tables.channels (HeadingsHold run (record { maps = maps; lines = lines })) None)
IsMapsBreach run file (Some breach) =
    (report : List ℕ) (lines : List Row) → IsReport report lines → IsBroken run file report breach breach.rule
