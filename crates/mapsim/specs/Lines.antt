-- The line that a fault prints on standard error (ours), without its line feed. Those of configurations, traces and replays
-- stand in `us_fault_lines`.
use Rattle.std.specs.Prelude.{ℕ, List, codes, decimal, string_bytes, Some, None}
use Rattle.us_codec.specs.Codes as map_codes
use Rattle.us_codec.specs.declared.faults.MapFault.{MapFault}
use Rattle.us_codec.specs.declared.faults.MapFault.TheVariants as map
use Rattle.us_check.specs.Faults as check_faults
use Rattle.us_check.specs.declared.faults.CheckFault.{CheckFault}
use Rattle.us_check.specs.declared.faults.CheckFault.TheVariants as check
use Rattle.us_fault_lines.specs.Lines.{config_line, io_line, line, memory_line, run_line}
use Rattle.us_files.specs.declared.streams.Stream.{Stream}
use Rattle.us_files.specs.Streams.{stream_word}
use Rattle.us_files.specs.declared.faults.StreamFault.{StreamFault}
use Rattle.us_files.specs.declared.faults.StreamFault.TheVariants as stream_fault
use Rattle.us_listing.specs.declared.faults.LintFault.{LintFault}
use Rattle.us_listing.specs.declared.faults.LintFault.TheVariants as lint_fault
use Rattle.us_replay.specs.declared.faults.RunFault.TheVariants as run
use Rattle.mapsim.specs.declared.faults.Fault.{Fault}
use Rattle.mapsim.specs.declared.faults.Fault.TheVariants as fault

-- of a stream that failed
abbrev pub stream_line : Stream → List ℕ
stream_line stream = io_line (stream_word stream)

-- of a MAP with the index of its record
abbrev pub map_line : MapFault → ℕ → List ℕ
map_line map.NoMemory index = memory_line
map_line map.RecordCut index = line (map_codes.code_of map.RecordCut) None
map_line f index = line (map_codes.code_of f) (Some (decimal index))

-- of a check with the line of the report
abbrev pub check_line : CheckFault → List ℕ
check_line check.NoMemory = memory_line
check_line (check.Report number) = line (check_faults.code_of (check.Report number)) (Some (decimal number))

-- of a usage fault it is the text that the fault has
abbrev pub fault_line : Fault → List ℕ
fault_line (fault.Usage text) = string_bytes text
fault_line fault.Pipe = line (codes "pipe") None
fault_line (fault.Config f) = config_line f
fault_line (fault.Run f) = run_line f
fault_line (fault.Map f index) = map_line f index
fault_line (fault.Check f) = check_line f
fault_line (fault.Device stream) = stream_line stream
fault_line fault.NoMemory = memory_line

-- what a file that failed ends the program with,
abbrev pub fault_of_stream : StreamFault → Fault
fault_of_stream (stream_fault.Failed stream) = fault.Device stream
fault_of_stream stream_fault.NoMemory = fault.NoMemory

-- and a lint that lists nothing
abbrev pub fault_of_lint : LintFault → Fault
fault_of_lint lint_fault.Rounds = fault.Run run.Rounds
fault_of_lint (lint_fault.Failed stream) = fault.Device stream
fault_of_lint lint_fault.NoMemory = fault.NoMemory
