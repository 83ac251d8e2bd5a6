-- Lints (ours): which of two texts has errors. What is said of these is tested.
use Rattle.std.specs.Prelude.{◌≡◌, ℕ, ◌≤◌, List, [], length, Option, Some, None, Ok, Err}
use Rattle.us_flows.specs.Tables.{Tables}
use Rattle.us_flows.specs.Answers.{Answers}
use Rattle.us_flows.specs.declared.faults.ConfigFault.{ConfigFault}
use Rattle.us_flows.specs.declared.faults.ConfigFault.TheVariants as config
use Rattle.us_requests.specs.declared.faults.TraceFault.{TraceFault}
use Rattle.us_requests.specs.Readings.{max_bytes}
use Rattle.us_requests.specs.Texts.{trace_fault}
use Rattle.us_findings.specs.TraceErrors.{IsAnswered}
use Rattle.us_page.specs.declared.calls.Status.{Status}
use Rattle.us_page.specs.declared.calls.Status.TheVariants as status
use Rattle.us_page.specs.Calls.{code_of}
use Rattle.us_page.specs.Runs.{Run}

-- the text of a trace has errors, or none, by a status
abbrev pub IsTraceLinted : List ℕ → Status → Type 0
IsTraceLinted trace status.Given = (length trace ≤ max_bytes) × (trace_fault trace ≡ None)
IsTraceLinted trace status.Replay = (fault : TraceFault) × IsAnswered trace fault
IsTraceLinted trace _ = ⊥

-- the text of the configuration has errors, or it has none and the trace is looked at
abbrev pub IsLinted : List ℕ → List ℕ → Status → Type 0
IsLinted config_text trace status.Config =
    (fault : ConfigFault) × (¬ (fault ≡ config.NoMemory)) × Answers config_text (Err fault)
IsLinted config_text trace s = (tables : Tables) × Answers config_text (Ok tables) × IsTraceLinted trace s

-- lines alone, and none beside status 0
abbrev pub HasLinesBeside : Status → Run → Type 0
HasLinesBeside status.Given r = r ≡ record { maps = []; report = []; line = [] }
HasLinesBeside s r = (r.maps ≡ []) × (r.report ≡ [])

-- what a hand holds behind a lint: lines, or nothing where memory was wanting
abbrev pub StandsLinted : List ℕ → List ℕ → Status → Option Run → Type 0
StandsLinted config_text trace status.NoMemory None = Unit {0}
StandsLinted config_text trace s (Some r) = IsLinted config_text trace s × HasLinesBeside s r
StandsLinted config_text trace s None = ⊥

-- the same by the status's number
pub record LintedAs (config_text trace : List ℕ) (number : ℕ) (held : Option Run) : Type 0 where
  pub status_is : Status
  pub number_is : number ≡ code_of status_is
  pub stands : StandsLinted config_text trace status_is held
