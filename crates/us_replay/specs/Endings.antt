-- How a replay ends (ours), by its answer.
use Rattle.std.specs.Prelude.{ℕ, Bool, true, false, Result, Ok, Err}
use Rattle.us_requests.specs.declared.faults.TraceFault.{TraceFault}
use Rattle.us_replay.specs.declared.summaries.Summary.{Summary}
use Rattle.us_replay.specs.declared.faults.RunFault.{RunFault}
use Rattle.us_replay.specs.declared.faults.RunFault.TheVariants as fault

-- what refuses a run before anything is written: the number of rounds, that of workers, or the trace
pub data Refusal : Type 0 where
  Rounds : Refusal
  Workers : Refusal
  Trace : TraceFault → Refusal

-- what stops a run: the maps file's writer, the report's, or want of memory
pub data Stopper : Type 0 where
  Maps : Stopper
  Report : Stopper
  Memory : Stopper

-- how a run ends that isn't done: it is refused, or stopped after so many rounds
pub data Ending : Type 0 where
  Refused : Refusal → Ending
  StoppedBy : Stopper → ℕ → Ending

-- the ending that a fault tells
abbrev pub ending_of : RunFault → Ending
ending_of fault.Rounds = Refused Rounds
ending_of fault.Workers = Refused Workers
ending_of (fault.Trace reason) = Refused (Trace reason)
ending_of (fault.WriteMaps done) = StoppedBy Maps done
ending_of (fault.WriteReport done) = StoppedBy Report done
ending_of (fault.NoMemory done) = StoppedBy Memory done

-- an answer, with the ending in place of the fault
abbrev pub ended : {A : Type 0} → Result A RunFault → Result A Ending
ended (Ok done) = Ok done
ended (Err f) = Err (ending_of f)

-- which answers come before anything is written
abbrev pub is_refused : {A : Type 0} → Result A Ending → Bool
is_refused (Err (Refused why)) = true
is_refused _ = false

abbrev pub comes_before : {A : Type 0} → Result A RunFault → Bool
comes_before result = is_refused (ended result)

-- which faults blame the maps file's writer, and which the report's
abbrev pub blames_maps : RunFault → Bool
blames_maps (fault.WriteMaps done) = true
blames_maps _ = false

abbrev pub blames_report : RunFault → Bool
blames_report (fault.WriteReport done) = true
blames_report _ = false

-- how many rounds are done
abbrev pub rounds_done : Result Summary Ending → ℕ
rounds_done (Ok summary) = summary.rounds
rounds_done (Err (StoppedBy what done)) = done
rounds_done (Err (Refused why)) = 0
