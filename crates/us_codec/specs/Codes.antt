-- The code of a fault (ours): its text begins with it.
use Rattle.std.specs.Prelude.{ℕ, List, ◌++◌, codes}
use Rattle.us_codec.specs.declared.faults.MapFault.{MapFault}
use Rattle.us_codec.specs.declared.faults.MapFault.TheVariants as fault

abbrev pub code_of : MapFault → List ℕ
code_of fault.Short = codes "M1"
code_of fault.LengthMismatch = codes "M2"
code_of fault.Reserved = codes "M3"
code_of fault.TooManyElements = codes "M4"
code_of fault.NoNull = codes "M5"
code_of fault.Order = codes "M6"
code_of fault.AfterNull = codes "M7"
code_of fault.Backoff = codes "M8"
code_of fault.FirstOffset = codes "M9"
code_of fault.NoMemory = codes "M10"
code_of fault.RecordCut = codes "M11"

-- what is said behind the code
abbrev pub sentence_of : MapFault → List ℕ
sentence_of fault.Short = codes "the body has under 16 bytes"
sentence_of fault.LengthMismatch = codes "the length is not that of the counted elements"
sentence_of fault.Reserved = codes "Reserved is not 0"
sentence_of fault.TooManyElements = codes "over 240 elements"
sentence_of fault.NoNull = codes "no Null, or one out of place"
sentence_of fault.Order = codes "offsets do not rise up to the Null"
sentence_of fault.AfterNull = codes "an element after the Null has its IUC or another offset"
sentence_of fault.Backoff = codes "a backoff is over 15"
sentence_of fault.FirstOffset = codes "the first offset is not 0"
sentence_of fault.NoMemory = codes "out of memory"
sentence_of fault.RecordCut = codes "the file ends inside a record"

-- what a fault is told as
abbrev pub fault_text : MapFault → List ℕ
fault_text f = code_of f ++ codes ": " ++ sentence_of f
