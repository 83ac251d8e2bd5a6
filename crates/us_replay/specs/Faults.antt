-- What faults of a replay are told as.
use Rattle.std.specs.Prelude.{ℕ, List, ◌++◌, codes}
use Rattle.std.specs.Fmt.{decimal}
use Rattle.us_replay.specs.declared.faults.RunFault.{RunFault}
use Rattle.us_replay.specs.declared.faults.RunFault.TheVariants as fault

-- the code of a fault
abbrev pub code_of : RunFault → List ℕ
code_of fault.Rounds = codes "RU1"
code_of fault.Workers = codes "RU2"
code_of (fault.Trace reason) = codes "RU3"
code_of (fault.WriteMaps done) = codes "RU4"
code_of (fault.WriteReport done) = codes "RU5"
code_of (fault.NoMemory done) = codes "RU6"

-- how many rounds were done
abbrev pub after_rounds : ℕ → List ℕ
after_rounds done = codes " after " ++ decimal done ++ codes " rounds"

-- what is said behind the code
abbrev pub said_of : RunFault → List ℕ
said_of fault.Rounds = codes "no rounds, or more than a run has ticks for"
said_of fault.Workers = codes "the workers are not 1 to 64"
said_of (fault.Trace reason) = codes "the trace is refused"
said_of (fault.WriteMaps done) = codes "the maps file failed" ++ after_rounds done
said_of (fault.WriteReport done) = codes "the report failed" ++ after_rounds done
said_of (fault.NoMemory done) = codes "out of memory" ++ after_rounds done

abbrev pub fault_text : RunFault → List ℕ
fault_text f = code_of f ++ codes ": " ++ said_of f
