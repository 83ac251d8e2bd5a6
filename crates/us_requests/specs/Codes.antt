-- The code of a fault (ours): its text begins with it, and the record that a fault names.
use Rattle.std.specs.Prelude.{ℕ, List, ◌++◌, codes, Option, Some, None}
use Rattle.std.specs.Fmt.{decimal}
use Rattle.us_requests.specs.declared.faults.TraceFault.{TraceFault}
use Rattle.us_requests.specs.declared.faults.TraceFault.TheVariants as fault

abbrev pub code_of : TraceFault → List ℕ
code_of fault.Header = codes "TR1"
code_of (fault.Fields number) = codes "TR2"
code_of (fault.Number number) = codes "TR3"
code_of fault.TooLarge = codes "TR4"
code_of fault.Read = codes "TR5"
code_of fault.NoMemory = codes "TR6"

-- records count from 1, with the header
abbrev pub record_of : TraceFault → Option ℕ
record_of (fault.Fields number) = Some number
record_of (fault.Number number) = Some number
record_of _ = None

-- what is said of it
abbrev pub sentence_of : TraceFault → List ℕ
sentence_of fault.Header = codes "the first record is not the header"
sentence_of (fault.Fields number) = codes "doesn't have as many fields as the header"
sentence_of (fault.Number number) = codes "has a field that isn't a number in its range, or is a mark with units"
sentence_of fault.TooLarge = codes "the trace is too large"
sentence_of fault.Read = codes "the source failed"
sentence_of fault.NoMemory = codes "out of memory"

-- behind the record that it names
abbrev pub behind_record : Option ℕ → List ℕ → List ℕ
behind_record (Some number) said = codes "record " ++ decimal number ++ codes " " ++ said
behind_record None said = said

-- what a fault is told as
abbrev pub fault_text : TraceFault → List ℕ
fault_text f = code_of f ++ codes ": " ++ behind_record (record_of f) (sentence_of f)
