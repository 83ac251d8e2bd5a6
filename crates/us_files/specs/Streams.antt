-- Files and streams: their names in fault lines (ours), and what is blamed where one fails.
use Rattle.std.specs.Prelude.{◌≡◌, ◌⊎◌, ℕ, List, codes}
use Rattle.us_files.specs.declared.streams.Stream.{Stream}
use Rattle.us_files.specs.declared.streams.Stream.TheVariants as stream
use Rattle.us_files.specs.declared.faults.StreamFault.{StreamFault}
use Rattle.us_files.specs.declared.faults.StreamFault.TheVariants as fault

-- the name in fault lines
abbrev pub stream_word : Stream → List ℕ
stream_word stream.Config = codes "config"
stream_word stream.Trace = codes "trace"
stream_word stream.Maps = codes "maps"
stream_word stream.Report = codes "report"
stream_word stream.Input = codes "input"
stream_word stream.Output = codes "output"

-- a fault of this file, and of no other
abbrev pub IsFaultOf : Stream → StreamFault → Type 0
IsFaultOf s f = (f ≡ fault.Failed s) ⊎ (f ≡ fault.NoMemory)
