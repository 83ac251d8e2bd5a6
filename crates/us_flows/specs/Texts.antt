-- What faults of a configuration are told as: the code, what is said behind it, and the table that the fault names.
use Rattle.std.specs.Prelude.{ℕ, List, [], ◌++◌, codes, Option, Some, None}
use Rattle.us_flows.specs.declared.faults.Place.{Place}
use Rattle.us_flows.specs.declared.faults.ConfigFault.{ConfigFault}
use Rattle.us_flows.specs.declared.faults.ConfigFault.TheVariants as fault
use Rattle.us_flows.specs.Codes.{code_of}
use Rattle.us_flows.specs.Places.{place_of, place_text}

-- what is said behind the code, up to the table
abbrev pub sentence_of : ConfigFault → List ℕ
sentence_of fault.Text = codes "not a TOML document of at most 4,194,304 bytes"
sentence_of (fault.Missing place) = codes "a key is missing in "
sentence_of (fault.Range place) = codes "a value is out of its range, or a key is unknown, in "
sentence_of (fault.UnknownChannel place) = codes "an id in channels or channel that no channel has, in "
sentence_of (fault.DuplicateId place) = codes "a duplicate id, or a duplicate in channels, in "
sentence_of (fault.DuplicateSid place) = codes "a SID in clusters is another cluster's on the same channel in "
sentence_of (fault.ClusterLength place) = codes "a list in clusters doesn't have one SID for each of channels in "
sentence_of (fault.RoundNotMultiple place) = codes "round_ticks isn't a multiple of the minislot, minislot_log2, of "
sentence_of (fault.ReservesTooLong place) = codes "contention_minislots and maintenance_minislots don't fit in the MAPs of "
sentence_of (fault.Jitter place) = codes "jitter_us is not below interval_us in "
sentence_of (fault.GrantLongerThanMap place) = codes "grant_bytes, a poll or station_minislots is longer than the MAP in "
sentence_of (fault.Headers place) = codes "headers is false with several channels in "
sentence_of (fault.MinRate place) = codes "min_rate is above rate in "
sentence_of fault.NoMemory = codes "out of memory"

abbrev pub named : Option Place → List ℕ
named (Some place) = place_text place
named None = []

abbrev pub fault_text : ConfigFault → List ℕ
fault_text f = code_of f ++ codes ": " ++ sentence_of f ++ named (place_of f)
