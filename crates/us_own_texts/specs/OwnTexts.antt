-- A law of what a replay wrote.
use Rattle.std.specs.Prelude.{ℕ, List, ◌++◌, Some, Result, Ok}
use Rattle.us_flows.specs.Tables.{Tables}
use Rattle.us_requests.specs.Traces.{TraceAsks}
use Rattle.us_requests.specs.Readings.{Reads}
use Rattle.us_lawful.specs.Runs.{run_in}
use Rattle.us_replay.specs.Replays.{Growth, WroteLawful}
use Rattle.us_check.specs.declared.verdicts.Verdict.{Verdict}
use Rattle.us_check.specs.declared.faults.CheckFault.{CheckFault}
use Rattle.us_check.specs.Verdicts.{Answers}
use Rattle.us_check.specs.Laws.{HoldsUnlessNoMemory}

-- a writer that tells its bytes: it had some, and took these behind them
abbrev pub grown_by : List ℕ → List ℕ → Growth
grown_by had bytes = record { before = Some had; after = Some (had ++ bytes) }

-- What a replay wrote holds, with the same tables and rounds, for a trace that was read of a source with the same text: by
-- what `replay` says where it answers Ok (`lawful`), `Trace::read` where it does (`read`), and `check` of its answer.
abbrev pub OwnTextsHold : Type 0
OwnTextsHold = (t : Tables) (rounds : ℕ) (text had_maps maps had_report report : List ℕ) (trace : TraceAsks)
    (result : Result Verdict CheckFault) →
    WroteLawful t rounds (Some text) (grown_by had_maps maps) (grown_by had_report report) →
    Reads t rounds (Some text) (Ok trace) → Answers (run_in t trace) maps report result → HoldsUnlessNoMemory result
