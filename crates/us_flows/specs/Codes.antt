-- The code of a fault (ours): its text begins with it.
use Rattle.std.specs.Prelude.{ℕ, List, codes}
use Rattle.us_flows.specs.declared.faults.ConfigFault.{ConfigFault}
use Rattle.us_flows.specs.declared.faults.ConfigFault.TheVariants as fault

abbrev pub code_of : ConfigFault → List ℕ
code_of fault.Text = codes "C1"
code_of (fault.Missing place) = codes "C2"
code_of (fault.Range place) = codes "C3"
code_of (fault.UnknownChannel place) = codes "C4"
code_of (fault.DuplicateId place) = codes "C5"
code_of (fault.DuplicateSid place) = codes "C6"
code_of (fault.ClusterLength place) = codes "C7"
code_of (fault.RoundNotMultiple place) = codes "C8"
code_of (fault.ReservesTooLong place) = codes "C9"
code_of (fault.Jitter place) = codes "C10"
code_of (fault.GrantLongerThanMap place) = codes "C11"
code_of (fault.Headers place) = codes "C12"
code_of (fault.MinRate place) = codes "C14"
code_of fault.NoMemory = codes "C13"
