-- The line that a fault is told by (ours), without a line feed: `fault`, a word, which is the fault's code or says what
-- failed, and what the fault names.
use Rattle.std.specs.Prelude.{ℕ, List, ◌++◌, codes, decimal, Option, Some, None, option_map}
use Rattle.us_flows.specs.Codes as config_codes
use Rattle.us_flows.specs.Places.{place_text, place_of}
use Rattle.us_flows.specs.declared.faults.ConfigFault.{ConfigFault}
use Rattle.us_flows.specs.declared.faults.ConfigFault.TheVariants as config
use Rattle.us_requests.specs.Codes as trace_codes
use Rattle.us_requests.specs.declared.faults.TraceFault.{TraceFault}
use Rattle.us_requests.specs.declared.faults.TraceFault.TheVariants as trace
use Rattle.us_replay.specs.Faults as run_faults
use Rattle.us_replay.specs.declared.faults.RunFault.{RunFault}
use Rattle.us_replay.specs.declared.faults.RunFault.TheVariants as run
use Rattle.us_fault_lines.specs.declared.lines.Line.{Line}
use Rattle.us_fault_lines.specs.declared.lines.Named.{Named}
use Rattle.us_fault_lines.specs.declared.lines.Named.TheVariants as named

-- a word, and behind it what is named, if anything
abbrev pub line : List ℕ → Option (List ℕ) → List ℕ
line word None = codes "fault " ++ word
line word (Some named) = codes "fault " ++ (word ++ (codes " " ++ named))

abbrev pub memory_line : List ℕ
memory_line = line (codes "memory") None

-- of a file or stream that failed, by its name
abbrev pub io_line : List ℕ → List ℕ
io_line name = line (codes "io") (Some name)

-- of the configuration with its table
abbrev pub config_line : ConfigFault → List ℕ
config_line config.NoMemory = memory_line
config_line f = line (config_codes.code_of f) (option_map place_text (place_of f))

-- of a trace with its record
abbrev pub trace_line : TraceFault → List ℕ
trace_line trace.NoMemory = memory_line
trace_line trace.Read = io_line (codes "trace")
trace_line f = line (trace_codes.code_of f) (option_map decimal (trace_codes.record_of f))

-- of a run with the rounds done
abbrev pub run_line : RunFault → List ℕ
run_line (run.NoMemory rounds) = memory_line
run_line (run.Trace f) = trace_line f
run_line (run.WriteMaps rounds) = line (run_faults.code_of (run.WriteMaps rounds)) (Some (decimal rounds))
run_line (run.WriteReport rounds) = line (run_faults.code_of (run.WriteReport rounds)) (Some (decimal rounds))
run_line f = line (run_faults.code_of f) None

-- The same as the code keeps it.

abbrev pub named_text : Named → Option (List ℕ)
named_text named.Nothing = None
named_text (named.Place place) = Some (place_text place)
named_text (named.Number number) = Some (decimal number)
named_text (named.Stream name) = Some name.now

abbrev pub line_text : Line → List ℕ
line_text l = line l.word.now (named_text l.named)
