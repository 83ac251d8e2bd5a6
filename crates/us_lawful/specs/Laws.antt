-- Laws: every schedule is lawful, and so are its texts; and of the rules, that assignments in order keep them.
use Rattle.std.specs.Prelude.{◌≡◌, ℕ, ◌^◌, ◌<◌, true, List, length, map, slice_index, sum_by, None}
use Rattle.std.specs.List.{AllByRecursion}
use Rattle.us_flows.specs.declared.channels.Channel.{Channel}
use Rattle.us_flows.specs.Tables.{Tables, rounds_fit}
use Rattle.us_flows.specs.Lawful.{AreTables}
use Rattle.us_requests.specs.declared.asks.Counts.{Counts}
use Rattle.us_requests.specs.Texts.{requests_of, trace_fault}
use Rattle.us_requests.specs.Traces.{TraceAsks, IsTraceOf, cuts_in}
use Rattle.us_holes.specs.Boards.{Assignment}
use Rattle.us_holes.specs.Runs.{Run, InOrder, runs_between}
use Rattle.us_channel.specs.Maps.{run_element}
use Rattle.us_round.specs.ScheduleLaws.{AreCuts}
use Rattle.us_lawful.specs.Output.{judged_of, maps_text, output_of, report_text, run_of}
use Rattle.us_lawful.specs.Runs.{run_in}
use Rattle.us_lawful.specs.Regions.{Region, minislot_holds}
use Rattle.us_lawful.specs.Lawful.{IsLawful}
use Rattle.us_lawful.specs.Texts.{AreLawful}
use Rattle.us_output.specs.Lines.{HasFields}
use Rattle.us_reports.specs.Reports.{IsReport}

-- Schedules.

-- All that a schedule gives is lawful: of all accepted tables, of rounds that fit into a run, and of cuts with a number for
-- each word.
abbrev pub SchedulesAreLawful : Type 0
SchedulesAreLawful = (t : Tables) (cuts : List (List ℕ)) (counts : Counts) → AreTables t → AreCuts t cuts →
    rounds_fit t (length cuts) ≡ true → IsLawful (run_of t cuts counts) (judged_of (output_of t cuts counts))

-- So are its texts, where all numbers of its lines have 64 bits.
abbrev pub TextsOfSchedulesAreLawful : Type 0
TextsOfSchedulesAreLawful = (t : Tables) (cuts : List (List ℕ)) (counts : Counts) → AreTables t → AreCuts t cuts →
    rounds_fit t (length cuts) ≡ true → AllByRecursion HasFields (judged_of (output_of t cuts counts)).lines →
    AreLawful (run_of t cuts counts) (maps_text (output_of t cuts counts)) (report_text (output_of t cuts counts))

-- of each word all cuts together have 64 bits, and so have the counts
pub record AreSmall (cuts : List (List ℕ)) (counts : Counts) : Type 0 where
  pub asked : (number : ℕ) → sum_by (λ cut. slice_index cut number) cuts < 2 ^ 64
  pub unknown : counts.unknown < 2 ^ 64
  pub not_requestable : counts.not_requestable < 2 ^ 64
  pub late : counts.late < 2 ^ 64

-- They have, where cuts and counts are so small.
abbrev pub LinesHaveFields : Type 0
LinesHaveFields = (t : Tables) (cuts : List (List ℕ)) (counts : Counts) → AreTables t → AreCuts t cuts →
    rounds_fit t (length cuts) ≡ true → AreSmall cuts counts →
    AllByRecursion HasFields (judged_of (output_of t cuts counts)).lines

-- And so they are for every trace: its text has no fault, and the cuts and counts are its own.
abbrev pub TextsOfTracesAreLawful : Type 0
TextsOfTracesAreLawful = (t : Tables) (rounds : ℕ) (text : List ℕ) (trace : TraceAsks) → AreTables t →
    rounds_fit t rounds ≡ true → trace_fault text ≡ None → IsTraceOf t rounds (requests_of text) trace →
    AreLawful (run_in t trace) (maps_text (output_of t (cuts_in t trace) trace.counts))
    (report_text (output_of t (cuts_in t trace) trace.counts))

-- And the report of a schedule reads back as the lines of its rounds, and those at the end.
abbrev pub ReportsReadBack : Type 0
ReportsReadBack = (t : Tables) (cuts : List (List ℕ)) (counts : Counts) → AreTables t → AreCuts t cuts →
    AllByRecursion HasFields (judged_of (output_of t cuts counts)).lines →
    IsReport (report_text (output_of t cuts counts)) (judged_of (output_of t cuts counts)).lines

-- Rules.

-- an assignment, and the element of a run, as minislots with an owner
abbrev pub region_for : Assignment → Region
region_for a = record { start = a.start; slots = a.slots; sid = a.owner.sid; iuc = a.owner.iuc }

abbrev pub element_region_for : Channel → Run → Region
element_region_for c run =
    record { start = run.start; slots = run.len; sid = (run_element c run).sid; iuc = (run_element c run).iuc }

-- Assignments that stand in order are lawful at every minislot of a MAP whose elements are those of their runs.
abbrev pub OrderedAssignmentsHold : Type 0
OrderedAssignmentsHold = (c : Channel) (len : ℕ) (ordered : List Assignment) (at : ℕ) → InOrder 0 ordered len →
    minislot_holds c len (map region_for ordered) (map (element_region_for c) (runs_between 0 ordered len)) at ≡ true
