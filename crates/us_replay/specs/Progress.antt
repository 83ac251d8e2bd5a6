-- A replay on its way: what it runs, what it keeps from one round to the next, and what its batch holds.
use Rattle.std.specs.Prelude.{◌≡◌, ℕ, ◌+◌, ◌*◌, ◌^◌, ◌-◌, ◌<◌, ◌≤◌, Bool, true, false, List, [], ◌∷◌, ◌++◌, length, drop, take, replicate, sum, sum_by, count_by, Option, Result, Ok, Err, OnOk}
use Rattle.std.specs.List.{AllByRecursion}
use Rattle.std.specs.Io.KnownBytes.{Keeps}
use Rattle.us_flows.specs.Tables.{Tables, max_run_ticks, rounds_fit}
use Rattle.us_flows.specs.Clusters.{words_of}
use Rattle.us_flows.specs.Lawful.{AreTables}
use Rattle.us_flows.specs.Ranges.{max_channels}
use Rattle.us_holes.specs.Boards.{max_assignments}
use Rattle.us_requests.specs.declared.asks.Ask.{Ask}
use Rattle.us_requests.specs.declared.asks.Counts.{Counts}
use Rattle.us_requests.specs.Cuts.{cut_of}
use Rattle.us_requests.specs.Traces.{TraceAsks, asks_in, asked_before, asks_before, max_ask, max_asked, max_asks, cuts_in}
use Rattle.us_round.specs.Rounds.{State, RoundResult, opening, round_of, schedule, final}
use Rattle.us_round.specs.States.{settled_by}
use Rattle.us_round.specs.FinalRows.{final_rows}
use Rattle.us_output.specs.declared.rows.Row.{Row}
use Rattle.us_output.specs.Outputs.{RoundOut, AreWithinLimits, out_of}
use Rattle.us_replay.specs.declared.summaries.Summary.{Summary}
use Rattle.us_replay.specs.declared.faults.RunFault.{RunFault}
use Rattle.us_replay.specs.Collecting.{AreAsks, chunk_quota}
use Rattle.us_output.specs.Files.{lines, is_granted, is_missed}
use Rattle.us_lawful.specs.Output.{counts_row, Output, all_rows, maps_text, output_of, report_text, run_of}
use Rattle.us_replay.specs.Endings.{ended, rounds_done, Ending, Refused, StoppedBy, Memory}
use Rattle.us_lawful.specs.Texts.{AreLawful}
use Rattle.us_output.specs.Lines.{HasFields}
use Rattle.us_replay.specs.Batches.{Batch, batch_of, no_rounds, with_next}
use Rattle.us_replay.specs.Replays.{AreLeft, Growth, KeptLimits, Ran, Writing, grown, writing}

-- Traces.

-- what the cuts of a trace come to
abbrev pub output_in : Tables → TraceAsks → Output
output_in t v = output_of t (cuts_in t v) v.counts

-- its texts are lawful for it
abbrev pub IsLawfulOutput : Tables → TraceAsks → Type 0
IsLawfulOutput t v = AreLawful (run_of t (cuts_in t v) v.counts) (maps_text (output_in t v)) (report_text (output_in t v))

-- the run of a trace that was read
abbrev pub RanTrace : Tables → TraceAsks → Growth → Growth → Bool → Result Summary RunFault → Type 0
RanTrace t v to_maps to_report report_failed result =
    Ran (output_in t v) v.counts to_maps to_report report_failed (ended result)
    × KeptLimits t (cuts_in t v) (rounds_done (ended result))

-- a trace that can be run with a configuration
pub record IsTraceFor (t : Tables) (v : TraceAsks) : Type 0 where
  pub fits : rounds_fit t v.rounds ≡ true
  pub known : (round : ℕ) → AllByRecursion (λ ask. ask.cluster < length (words_of t)) (asks_in v round)

-- a writer in a run: the bytes that it took, and what else it tells
pub record Written : Type 0 where
  pub bytes : Growth
  pub flags : Writing

abbrev pub written : {S : Type 0} → (S → Option (List ℕ)) → (S → Bool) → (S → Bool) → S → S → Written
written contents failed flushed before after =
    record { bytes = grown (contents before) (contents after); flags = writing (failed after) (flushed before) (flushed after) }

-- a run can begin: of such a trace, by writers of which none has failed
abbrev pub CanRun : Tables → TraceAsks → Bool → Bool → Type 0
CanRun t v maps_failed report_failed = IsTraceFor t v × (maps_failed ≡ false) × (report_failed ≡ false)

-- and how it ends
abbrev pub Ended : Tables → TraceAsks → Written → Written → Result Summary RunFault → Type 0
Ended t v maps report result =
    RanTrace t v maps.bytes report.bytes report.flags.failed result × OnOk result (IsLawfulOutput t v)
    × AreLeft maps.flags report.flags result

-- Progress.

pub record Progress : Type 0 where
  -- what is newly told by each word
  pub cut : List ℕ
  -- the bytes that were collected so far
  pub collected : ℕ
  -- what is to be sent next
  pub batch : Batch
  -- the G and M lines so far
  pub granted : ℕ
  pub missed : ℕ

-- before round 0 of so many words
abbrev pub opening_progress : ℕ → Progress
opening_progress clusters =
    record { cut = replicate clusters 0; collected = 0; batch = no_rounds; granted = 0; missed = 0 }

-- the most lines of requested grants in a round: of all channels with all their assignments
abbrev pub max_requested : ℕ
max_requested = max_channels * max_assignments

-- lines so far, before the round of a state: beside those of requested grants there is at most one for each occurrence
-- that the calendars settled
abbrev pub AreFewBefore : State → ℕ → Type 0
AreFewBefore state lines = lines ≤ max_requested * state.round + settled_by state

-- there is room to count so many lines more
pub record HasRoom (p : Progress) (more : ℕ) : Type 0 where
  pub granted : p.granted + more < 2 ^ 64
  pub missed : p.missed + more < 2 ^ 64

-- the asks of the next round were collected
abbrev pub with_asks : Progress → List Ask → Progress
with_asks p asks = record p {
  cut = cut_of (length p.cut) asks;
  collected = p.collected + sum (cut_of (length p.cut) asks);
}

-- the texts of a round were made
unfoldable pub with_round : Progress → RoundOut → Progress
with_round p out = record p {
  batch = with_next p.batch out;
  granted = p.granted + count_by is_granted out.rows;
  missed = p.missed + count_by is_missed out.rows;
}

-- the lines at the end of the report, of the state after all rounds
abbrev pub last_rows : State → Counts → List Row
last_rows state counts = final_rows state ++ counts_row counts ∷ []

-- their text was made
unfoldable pub with_last : Progress → State → Counts → Progress
with_last p state counts =
    record p { batch = record p.batch { lines = p.batch.lines ++ lines (last_rows state counts) } }

-- the batch was sent
abbrev pub with_none_left : Progress → Progress
with_none_left p = record p { batch = no_rounds }

-- what the replay did
abbrev pub summary_after : Progress → ℕ → Counts → Summary
summary_after p rounds counts = record {
  rounds = rounds;
  granted = p.granted;
  missed = p.missed;
  unknown = counts.unknown;
  not_requestable = counts.not_requestable;
  late = counts.late;
}

-- Rounds.

-- a round can be made of a state and these asks
pub record CanMake (state : State) (p : Progress) (asks : List Ask) : Type 0 where
  pub lawful : AreTables state.tables
  pub clusters : length p.cut ≡ length (words_of state.tables)
  pub asks_are : AreAsks (length p.cut) asks
  pub few_asks : length asks ≤ max_asks
  pub room : p.collected + chunk_quota asks ≤ max_asked
  pub asked : sum state.outstanding + sum_by (λ ask. ask.bytes) asks ≤ max_asked
  pub time : (state.round + 1) * state.tables.round_ticks ≤ max_run_ticks
  pub few_granted : AreFewBefore state p.granted
  pub few_missed : AreFewBefore state p.missed

-- the round of a state and these asks
abbrev pub step_of : State → Progress → List Ask → RoundResult
step_of state p asks = round_of state (cut_of (length p.cut) asks)

abbrev pub out_after : State → Progress → List Ask → RoundOut
out_after state p asks = out_of state.tables (step_of state p asks).scheduled

-- it was made
pub record IsMade (state : State) (p : Progress) (asks : List Ask) (next : State) (after : Progress) : Type 0 where
  pub state_is : next ≡ (step_of state p asks).state
  pub progress_is : after ≡ with_round (with_asks p asks) (out_after state p asks)
  pub limits : AreWithinLimits state.tables (step_of state p asks).scheduled
  pub few : length (out_after state p asks).rows + settled_by state ≤ max_requested + settled_by next
  pub fields : AllByRecursion HasFields (out_after state p asks).rows

-- how a replay stands after k rounds
pub record IsAlong (t : Tables) (v : TraceAsks) (k : ℕ) (state : State) (p : Progress) : Type 0 where
  pub within : k ≤ v.rounds
  pub lawful : AreTables t
  pub tables : state.tables ≡ t
  pub round : state.round ≡ k
  pub clusters : length p.cut ≡ length (words_of t)
  pub asked : sum state.outstanding ≤ asked_before v k
  pub collected : p.collected ≤ max_ask * asks_before v k
  -- what is still to be scheduled
  pub rest : schedule state (drop k (cuts_in t v)) ≡ drop k (schedule (opening t) (cuts_in t v))
  pub ends : final state (drop k (cuts_in t v)) ≡ final (opening t) (cuts_in t v)
  -- the lines so far
  pub granted : p.granted ≡ count_by is_granted (all_rows (take k (output_in t v).given))
  pub missed : p.missed ≡ count_by is_missed (all_rows (take k (output_in t v).given))
  pub few_granted : AreFewBefore state p.granted
  pub few_missed : AreFewBefore state p.missed
  pub limits : KeptLimits t (cuts_in t v) k
  pub fields : AllByRecursion HasFields (all_rows (take k (output_in t v).given))

-- whatever its batch holds
abbrev pub Along : Tables → TraceAsks → ℕ → State → Progress → Type 0
Along t v k state p = IsAlong t v k state (with_none_left p)

-- Writing.

-- the batch holds the texts of the rounds from `sent` to k
pub record Holds (out : Output) (sent k : ℕ) (b : Batch) : Type 0 where
  pub from : sent ≤ k
  pub rounds : b ≡ batch_of (take (k - sent) (drop sent out.given)) []

-- a flush keeps what was taken, and where it stops the run it names these rounds
abbrev pub Flushed : ℕ → Growth → Growth → Result (Unit {0}) Ending → Type 0
Flushed done to_maps to_report (Ok _) = Keeps to_maps.before to_maps.after × Keeps to_report.before to_report.after
Flushed done to_maps to_report (Err (StoppedBy Memory rounds)) = ⊥
Flushed done to_maps to_report (Err (StoppedBy writer rounds)) =
    Keeps to_maps.before to_maps.after × Keeps to_report.before to_report.after × (rounds ≡ done)
Flushed done to_maps to_report (Err (Refused why)) = ⊥
