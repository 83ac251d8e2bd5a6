-- Runs (ours): what the texts of a configuration and a trace give, and by which fault they are refused.
use Rattle.std.specs.Prelude.{◌≡◌, ℕ, true, false, List, [], None, Some, Ok, Err}
use Rattle.us_flows.specs.Tables.{Tables, rounds_fit}
use Rattle.us_flows.specs.Answers.{Answers}
use Rattle.us_flows.specs.declared.faults.ConfigFault.{ConfigFault}
use Rattle.us_flows.specs.declared.faults.ConfigFault.TheVariants as config
use Rattle.us_requests.specs.Readings.{Reads}
use Rattle.us_requests.specs.Texts.{requests_of, trace_fault}
use Rattle.us_requests.specs.declared.faults.TraceFault.TheVariants as trace
use Rattle.us_lawful.specs.Output.{maps_text, report_text}
use Rattle.us_lawful.specs.Texts.{AreLawful}
use Rattle.us_replay.specs.Endings.{Ending, Refused, Rounds, Trace, ending_of}
use Rattle.us_replay.specs.Replays.{output_for, run_for}
use Rattle.us_replay.specs.declared.faults.RunFault.{RunFault}
use Rattle.us_replay.specs.declared.faults.RunFault.TheVariants as run
use Rattle.us_fault_lines.specs.Lines.{config_line, memory_line, run_line}
use Rattle.us_page.specs.declared.faults.PageFault.{PageFault}
use Rattle.us_page.specs.declared.faults.PageFault.TheVariants as page

-- what a replay wrote, or the line of its fault
pub record Run : Type 0 where
  pub maps : List ℕ
  pub report : List ℕ
  pub line : List ℕ

-- Given.

-- a run of these tables and of the text of a trace without a fault: its texts are those of the schedule, and lawful
pub record Gives (t : Tables) (text : List ℕ) (rounds : ℕ) (r : Run) : Type 0 where
  pub fit : rounds_fit t rounds ≡ true
  pub sound : trace_fault text ≡ None
  pub maps_whole : r.maps ≡ maps_text (output_for t rounds text)
  pub report_whole : r.report ≡ report_text (output_for t rounds text)
  pub lawful : AreLawful (run_for t rounds (requests_of text)) r.maps r.report
  pub no_fault : r.line ≡ []

-- the same of the text of a configuration without a fault
pub record IsGiven (config_text trace_text : List ℕ) (rounds : ℕ) (r : Run) : Type 0 where
  pub tables : Tables
  pub accepted : Answers config_text (Ok tables)
  pub gives : Gives tables trace_text rounds r

-- Refused.

-- the fault as it is told: want of memory is one, wherever it was met
abbrev pub of_config : ConfigFault → PageFault
of_config config.NoMemory = page.NoMemory
of_config f = page.Config f

-- readers and writers in memory fail only where memory is wanting
abbrev pub of_run : RunFault → PageFault
of_run (run.NoMemory rounds) = page.NoMemory
of_run (run.Trace trace.NoMemory) = page.NoMemory
of_run (run.Trace trace.Read) = page.NoMemory
of_run (run.WriteMaps rounds) = page.NoMemory
of_run (run.WriteReport rounds) = page.NoMemory
of_run f = page.Replay f

-- the fault of a replay in memory, by one worker, is one of the rounds or of the trace's text
abbrev pub IsReplayFault : Tables → List ℕ → ℕ → Ending → Type 0
IsReplayFault t text rounds (Refused Rounds) = rounds_fit t rounds ≡ false
IsReplayFault t text rounds (Refused (Trace trace.NoMemory)) = ⊥
IsReplayFault t text rounds (Refused (Trace trace.Read)) = ⊥
IsReplayFault t text rounds (Refused (Trace reason)) = (rounds_fit t rounds ≡ true) × Reads t rounds (Some text) (Err reason)
IsReplayFault t text rounds _ = ⊥

-- what refuses a run of these tables; memory may be wanting
abbrev pub RefusesTrace : Tables → List ℕ → ℕ → PageFault → Type 0
RefusesTrace t text rounds page.NoMemory = Unit {0}
RefusesTrace t text rounds (page.Config f) = ⊥
RefusesTrace t text rounds (page.Replay f) = IsReplayFault t text rounds (ending_of f)

-- the tables are accepted, and this is the fault of the rounds or of the trace
pub record IsTraceRefused (config_text trace_text : List ℕ) (rounds : ℕ) (f : RunFault) : Type 0 where
  pub tables : Tables
  pub accepted : Answers config_text (Ok tables)
  pub refuses : IsReplayFault tables trace_text rounds (ending_of f)

-- what refuses a run of two texts; memory may be wanting, and that is told as nothing else
abbrev pub IsRefused : List ℕ → List ℕ → ℕ → PageFault → Type 0
IsRefused config_text trace_text rounds page.NoMemory = Unit {0}
IsRefused config_text trace_text rounds (page.Config config.NoMemory) = ⊥
IsRefused config_text trace_text rounds (page.Config f) = Answers config_text (Err f)
IsRefused config_text trace_text rounds (page.Replay f) = IsTraceRefused config_text trace_text rounds f

-- the line of a fault, as the program prints it
abbrev pub page_line : PageFault → List ℕ
page_line page.NoMemory = memory_line
page_line (page.Config f) = config_line f
page_line (page.Replay f) = run_line f

-- what stands of a run that a fault refused
abbrev pub refused_by : PageFault → Run
refused_by f = record { maps = []; report = []; line = page_line f }
