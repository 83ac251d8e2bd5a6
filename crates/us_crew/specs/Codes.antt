-- The code of a fault, by which its text names it.
use Rattle.std.specs.Prelude.{ℕ, List, ◌++◌, codes, Option, Some, option_map}
use Rattle.std.specs.Fmt.{decimal}
use Rattle.us_crew.specs.declared.faults.CrewFault.{CrewFault}
use Rattle.us_crew.specs.declared.faults.CrewFault.TheVariants as fault

abbrev pub code_of : {E : Type 0} → CrewFault E → List ℕ
code_of fault.Workers = codes "CR1"
code_of fault.NoMemory = codes "CR2"
code_of (fault.Item place said) = codes "CR3"

-- what a fault is told as, where a fault of an item is told by this
abbrev pub fault_text : {E : Type 0} → (E → Option (List ℕ)) → CrewFault E → Option (List ℕ)
fault_text said fault.Workers = Some (codes "CR1: the workers are not 1 to 64")
fault_text said fault.NoMemory = Some (codes "CR2: out of memory")
fault_text said (fault.Item place reason) =
    option_map (λ text. codes "CR3: item " ++ decimal place ++ codes ": " ++ text) (said reason)
