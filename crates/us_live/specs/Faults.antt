-- What faults of a `Live` are told as.
use Rattle.std.specs.Prelude.{ℕ, List, codes}
use Rattle.us_live.specs.declared.faults.LiveFault.{LiveFault}
use Rattle.us_live.specs.declared.faults.LiveFault.TheVariants as fault

abbrev pub fault_text : LiveFault → List ℕ
fault_text fault.Rounds = codes "LV1: no rounds, or more than a run has ticks for"
fault_text fault.NoCluster = codes "LV2: no flow makes requests or tells its activity"
fault_text fault.Quota = codes "LV3: the quota is none that can be given"
fault_text fault.Failed = codes "LV4: an earlier round was out of memory"
fault_text fault.Done = codes "LV5: all rounds were answered"
fault_text fault.Workers = codes "LV6: the workers are not 1 to 64"
fault_text fault.NoMemory = codes "LV7: out of memory"
