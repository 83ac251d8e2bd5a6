-- What faults are told as.
use Rattle.std.specs.Prelude.{ℕ, List, codes}
use Rattle.us_round.specs.declared.faults.RoundFault.{RoundFault}
use Rattle.us_round.specs.declared.faults.RoundFault.TheVariants as fault

abbrev pub fault_text : RoundFault → List ℕ
fault_text fault.Workers = codes "RO1: the workers are not 1 to 64"
fault_text fault.NoMemory = codes "RO2: out of memory"
