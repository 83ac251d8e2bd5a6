-- Replays (ours): what a run writes, and what stands after it ended early.
use Rattle.std.specs.Prelude.{◌≡◌, ℕ, ◌≤◌, ◌⊎◌, List, [], length, map, flat_map, count_by, take, Bool, true, false, Option, None, Result, Ok, Err}
use Rattle.std.specs.List.{AllByRecursion, range_with_len}
use Rattle.std.specs.Io.KnownBytes.{Appends}
use Rattle.us_flows.specs.Tables.{Tables, rounds_fit}
use Rattle.us_requests.specs.declared.asks.Counts.{Counts}
use Rattle.us_requests.specs.Asks.{Request, counts_of}
use Rattle.us_requests.specs.Cuts.{cut_at}
use Rattle.us_requests.specs.Texts.{trace_fault, requests_of}
use Rattle.us_requests.specs.Readings.{IsTextOf, Reads}
use Rattle.us_round.specs.Rounds.{opening, schedule}
use Rattle.us_output.specs.Outputs.{RoundOut, AreWithinLimits}
use Rattle.us_output.specs.Files.{records, round_lines, is_granted, is_missed}
use Rattle.us_lawful.specs.Runs.{Run}
use Rattle.us_lawful.specs.Output.{Output, output_of, maps_text, report_text, all_rows, run_of}
use Rattle.us_lawful.specs.Texts.{AreLawful}
use Rattle.us_replay.specs.declared.summaries.Summary.{Summary}
use Rattle.us_replay.specs.declared.faults.RunFault.{RunFault}
use Rattle.us_replay.specs.Endings.{Refusal, Rounds, Workers, Trace, Stopper, Maps, Report, Memory, Ending, Refused, StoppedBy, blames_maps, blames_report, ended, rounds_done}

-- What a run gives.

-- the cuts of all rounds: what is told by each word in the rows of the trace
unfoldable pub cuts_of : Tables → ℕ → List Request → List (List ℕ)
cuts_of t rounds requests = map (cut_at t rounds requests) (range_with_len 0 rounds)

-- what a run did
unfoldable pub summary_of : Output → Counts → Summary
summary_of out counts = record {
  rounds = length out.given;
  granted = count_by is_granted (all_rows out.given);
  missed = count_by is_missed (all_rows out.given);
  unknown = counts.unknown;
  not_requestable = counts.not_requestable;
  late = counts.late;
}

-- Devices.

-- the bytes that a writer had and has, where it tells them
pub record Growth : Type 0 where
  pub before : Option (List ℕ)
  pub after : Option (List ℕ)

abbrev pub grown : Option (List ℕ) → Option (List ℕ) → Growth
grown before after = record { before = before; after = after }

-- where a writer tells its bytes, it took just these
abbrev pub Took : Growth → List ℕ → Type 0
Took g bytes = Appends g.before g.after bytes

-- Runs that end early.

-- `taken` bytes of a file have the parts of its first `done` rounds
abbrev pub HasRounds : (RoundOut → List ℕ) → List RoundOut → ℕ → ℕ → Type 0
HasRounds part given done taken = length (flat_map part (take done given)) ≤ taken

-- each writer took the beginning of its text, both have the first `done` rounds, and no greater number
pub record Stopped (out : Output) (to_maps to_report : Growth) (done : ℕ) : Type 0 where
  pub maps_taken : ℕ
  pub report_taken : ℕ
  pub maps_short : maps_taken ≤ length (maps_text out)
  pub report_short : report_taken ≤ length (report_text out)
  pub maps_front : Took to_maps (take maps_taken (maps_text out))
  pub report_front : Took to_report (take report_taken (report_text out))
  pub rounds : done ≤ length out.given
  pub maps_hold : HasRounds records out.given done maps_taken
  pub report_hold : HasRounds round_lines out.given done report_taken
  pub greatest : (more : ℕ) → more ≤ length out.given → HasRounds records out.given more maps_taken
      → HasRounds round_lines out.given more report_taken → more ≤ done

-- each writer took just the texts of the first `done` rounds
pub record TookRounds (out : Output) (done : ℕ) (to_maps to_report : Growth) : Type 0 where
  pub rounds : done ≤ length out.given
  pub maps : Took to_maps (flat_map records (take done out.given))
  pub report : Took to_report (flat_map round_lines (take done out.given))

-- Rounds are written in batches: of each one the records, and then the lines. Where the maps file's writer stops the run, the
-- lines of the rounds whose records it has whole still go to the report.

-- so many bytes of the maps file have the records of just `whole` rounds
pub record HasWhole (out : Output) (taken whole : ℕ) : Type 0 where
  pub rounds : whole ≤ length out.given
  pub hold : HasRounds records out.given whole taken
  pub greatest : (more : ℕ) → more ≤ length out.given → HasRounds records out.given more taken → more ≤ whole

-- a writer took a front of the lines of these rounds, of which there are `done` or more
pub record TookFront (out : Output) (done maps_taken : ℕ) (g : Growth) : Type 0 where
  pub whole : ℕ
  pub has_whole : HasWhole out maps_taken whole
  pub no_fewer : done ≤ whole
  pub bytes : ℕ
  pub front : Took g (take bytes (flat_map round_lines (take whole out.given)))

-- So the report's writer took the lines of just the rounds that are done, or behind all rounds the whole report; or, where it
-- failed too, such a front;
abbrev pub TookLines : Output → ℕ → ℕ → Growth → Bool → Type 0
TookLines out done maps_taken g failed =
    Took g (flat_map round_lines (take done out.given)) ⊎ ((done ≡ length out.given) × Took g (report_text out))
    ⊎ ((failed ≡ true) × TookFront out done maps_taken g)

-- and where the report's writer stops it, the maps file's took the records of all rounds that were sent, done or not
abbrev pub TookRecords : Output → ℕ → Growth → Type 0
TookRecords out done g =
    (sent : ℕ) × (done ≤ sent) × (sent ≤ length out.given) × Took g (flat_map records (take sent out.given))

-- what stands where a run is stopped after `done` rounds. Memory is wanting between rounds alone
abbrev pub StoppedEarly : Stopper → Output → ℕ → Growth → Growth → Bool → Type 0
StoppedEarly Maps out done to_maps to_report report_failed =
    (stopped : Stopped out to_maps to_report done) × TookLines out done stopped.maps_taken to_report report_failed
StoppedEarly Report out done to_maps to_report report_failed = Stopped out to_maps to_report done × TookRecords out done to_maps
StoppedEarly Memory out done to_maps to_report report_failed = Stopped out to_maps to_report done × TookRounds out done to_maps to_report

-- the run of a trace that was read: what stands at its end
abbrev pub Ran : Output → Counts → Growth → Growth → Bool → Result Summary Ending → Type 0
Ran out counts to_maps to_report report_failed (Ok summary) =
    Took to_maps (maps_text out) × Took to_report (report_text out) × (summary ≡ summary_of out counts)
Ran out counts to_maps to_report report_failed (Err (StoppedBy what done)) =
    StoppedEarly what out done to_maps to_report report_failed
Ran out counts to_maps to_report report_failed (Err (Refused why)) = ⊥

-- Limits.

-- no MAP of the first `done` rounds passes a limit of MAPs
unfoldable pub KeptLimits : Tables → List (List ℕ) → ℕ → Type 0
KeptLimits t cuts done = AllByRecursion (AreWithinLimits t) (take done (schedule (opening t) cuts))

-- Whole runs.

-- the output for the requests that the text of a trace tells
unfoldable pub output_for : Tables → ℕ → List ℕ → Output
output_for t rounds text = output_of t (cuts_of t rounds (requests_of text)) (counts_of t rounds (requests_of text))

-- what the source tells is the text of a trace without a fault, and the rounds were run for its requests
abbrev pub RanText : Tables → ℕ → Option (List ℕ) → Growth → Growth → Bool → Result Summary Ending → Type 0
RanText t rounds told to_maps to_report report_failed end =
    (text : List ℕ) × IsTextOf told text × (trace_fault text ≡ None)
    × Ran (output_for t rounds text) (counts_of t rounds (requests_of text)) to_maps to_report report_failed end
    × KeptLimits t (cuts_of t rounds (requests_of text)) (rounds_done end)

abbrev pub TookNothing : Growth → Growth → Type 0
TookNothing to_maps to_report = Took to_maps [] × Took to_report []

-- why a replay is refused: a number of rounds that doesn't fit is answered first, then a number of workers that can't be
-- had, and then a fault of the trace. Which numbers of workers those are is said by the clause `workers` of `replay`.
abbrev pub IsRefused : Tables → ℕ → Option (List ℕ) → Refusal → Type 0
IsRefused t rounds told Rounds = rounds_fit t rounds ≡ false
IsRefused t rounds told Workers = rounds_fit t rounds ≡ true
IsRefused t rounds told (Trace reason) = (rounds_fit t rounds ≡ true) × Reads t rounds told (Err reason)

-- what stands at the end of a replay: nothing was written, or its rounds were run, all of them or those that were done
abbrev pub Stands : Tables → ℕ → Option (List ℕ) → Growth → Growth → Bool → Result Summary Ending → Type 0
Stands t rounds told to_maps to_report report_failed (Err (Refused why)) =
    IsRefused t rounds told why × TookNothing to_maps to_report
Stands t rounds told to_maps to_report report_failed end =
    (rounds_fit t rounds ≡ true) × RanText t rounds told to_maps to_report report_failed end

-- a replay: what stands by its answer
abbrev pub Replayed : Tables → ℕ → Option (List ℕ) → Growth → Growth → Bool → Result Summary RunFault → Type 0
Replayed t rounds told to_maps to_report report_failed result =
    Stands t rounds told to_maps to_report report_failed (ended result)

-- Lawful output.

-- what a replay of these requests is judged by
abbrev pub run_for : Tables → ℕ → List Request → Run
run_for t rounds requests = run_of t (cuts_of t rounds requests) (counts_of t rounds requests)

-- the writers took a maps file and a report that are lawful for the requests that the source tells
pub record WroteLawful (t : Tables) (rounds : ℕ) (told : Option (List ℕ)) (to_maps to_report : Growth) : Type 0 where
  pub text : List ℕ
  pub is_text : IsTextOf told text
  pub sound : trace_fault text ≡ None
  pub maps : List ℕ
  pub report : List ℕ
  pub took_maps : Took to_maps maps
  pub took_report : Took to_report report
  pub lawful : AreLawful (run_for t rounds (requests_of text)) maps report

-- Writers.

-- what a writer tells beside its bytes: whether it failed, and whether its last call was a flush that went well, before a run
-- and after it
pub record Writing : Type 0 where
  pub failed : Bool
  pub was_flushed : Bool
  pub flushed : Bool

abbrev pub writing : Bool → Bool → Bool → Writing
writing failed was_flushed flushed = record { failed = failed; was_flushed = was_flushed; flushed = flushed }

-- what both tell once a fault ended a run. The report's may fail behind the maps file's, which is blamed then
pub record AreLeftBy (f : RunFault) (maps report : Writing) : Type 0 where
  pub maps_failed : maps.failed ≡ blames_maps f
  pub report_blamed : blames_report f ≡ true → report.failed ≡ true
  pub report_failed : report.failed ≡ true → (blames_report f ≡ true) ⊎ (blames_maps f ≡ true)
  pub maps_unflushed : maps.failed ≡ true → maps.flushed ≡ false
  pub report_unflushed : report.failed ≡ true → report.flushed ≡ false
  pub maps_never_flushed : maps.was_flushed ≡ false → blames_report f ≡ false → maps.flushed ≡ false
  pub report_never_flushed : report.was_flushed ≡ false → report.flushed ≡ false

-- and once it has ended
abbrev pub AreLeft : {A : Type 0} → Writing → Writing → Result A RunFault → Type 0
AreLeft maps report (Ok _) =
    (maps.failed ≡ false) × (report.failed ≡ false) × (maps.flushed ≡ true) × (report.flushed ≡ true)
AreLeft maps report (Err f) = AreLeftBy f maps report
