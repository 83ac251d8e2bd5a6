-- The code of a fault, by which its text names it.
use Rattle.std.specs.Prelude.{ℕ, List, ◌++◌, codes}
use Rattle.us_intake.specs.declared.faults.IntakeFault.{IntakeFault}
use Rattle.us_intake.specs.declared.faults.IntakeFault.TheVariants as fault

abbrev pub code_of : IntakeFault → List ℕ
code_of fault.QuotaSpent = codes "I1"
code_of fault.BadQuota = codes "I2"
code_of fault.NoMemory = codes "I3"

-- what is said behind the code
abbrev pub sentence_of : IntakeFault → List ℕ
sentence_of fault.QuotaSpent = codes "the bytes are over what the seat's quota leaves"
sentence_of fault.BadQuota = codes "the quota is none that can be given"
sentence_of fault.NoMemory = codes "out of memory"

-- what a fault is told as
abbrev pub fault_text : IntakeFault → List ℕ
fault_text f = code_of f ++ codes ": " ++ sentence_of f
