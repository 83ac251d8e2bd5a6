-- Answers that are the wanted ones, but for want of memory, which may be answered in place of any of them.
use Rattle.std.specs.Prelude.{◌≡◌, ◌≢◌, List, Result, Ok, Err}
use Rattle.std.specs.Global.{Vec}
use Rattle.us_codec.specs.declared.faults.MapFault.{MapFault}
use Rattle.us_codec.specs.declared.faults.MapFault.TheVariants.{NoMemory}

-- the answer is the wanted one, or want of memory
abbrev pub UnlessNoMemory : {A : Type 0} → Result A MapFault → Result A MapFault → Type 0
UnlessNoMemory (Ok x) wanted = wanted ≡ Ok x
UnlessNoMemory (Err fault) wanted = fault ≢ NoMemory → wanted ≡ Err fault

-- the same of a list
abbrev pub ListUnlessNoMemory : {A : Type 0} → Result (Vec A) MapFault → Result (List A) MapFault → Type 0
ListUnlessNoMemory (Ok v) wanted = wanted ≡ Ok v.items
ListUnlessNoMemory (Err fault) wanted = fault ≢ NoMemory → wanted ≡ Err fault
