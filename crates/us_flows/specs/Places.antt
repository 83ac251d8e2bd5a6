-- Which table of the configuration a fault names, and how it is named in the fault's line, as `channel 0`.
use Rattle.std.specs.Prelude.{ℕ, List, ◌++◌, codes, Option, Some, None}
use Rattle.std.specs.Fmt.{decimal}
use Rattle.us_flows.specs.declared.faults.Place.{Place}
use Rattle.us_flows.specs.declared.faults.TableName.{TableName}
use Rattle.us_flows.specs.declared.faults.TableName.TheVariants.{Top, Channel, Flow, Station}
use Rattle.us_flows.specs.declared.faults.ConfigFault.{ConfigFault}
use Rattle.us_flows.specs.declared.faults.ConfigFault.TheVariants as fault

abbrev pub place_of : ConfigFault → Option Place
place_of fault.Text = None
place_of (fault.Missing place) = Some place
place_of (fault.Range place) = Some place
place_of (fault.UnknownChannel place) = Some place
place_of (fault.DuplicateId place) = Some place
place_of (fault.DuplicateSid place) = Some place
place_of (fault.ClusterLength place) = Some place
place_of (fault.RoundNotMultiple place) = Some place
place_of (fault.ReservesTooLong place) = Some place
place_of (fault.Jitter place) = Some place
place_of (fault.GrantLongerThanMap place) = Some place
place_of (fault.Headers place) = Some place
place_of (fault.MinRate place) = Some place
place_of fault.NoMemory = None

abbrev pub table_word : TableName → List ℕ
table_word Top = codes "top"
table_word Channel = codes "channel"
table_word Flow = codes "flow"
table_word Station = codes "station"

abbrev pub place_text : Place → List ℕ
place_text place = table_word place.table ++ codes " " ++ decimal place.index
