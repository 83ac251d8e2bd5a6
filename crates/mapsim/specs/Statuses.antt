-- Exit statuses (ours): 0 done, 1 a rule is broken or something looks wrong, 2 usage, 3 what was read is refused or has an
-- error, 4 a file or stream failed, 5 want of memory.
use Rattle.std.specs.Prelude.{ℕ}
use Rattle.us_codec.specs.declared.faults.MapFault.{MapFault}
use Rattle.us_codec.specs.declared.faults.MapFault.TheVariants as map
use Rattle.us_flows.specs.declared.faults.ConfigFault.{ConfigFault}
use Rattle.us_flows.specs.declared.faults.ConfigFault.TheVariants as config
use Rattle.us_requests.specs.declared.faults.TraceFault.{TraceFault}
use Rattle.us_requests.specs.declared.faults.TraceFault.TheVariants as trace
use Rattle.us_check.specs.declared.faults.CheckFault.{CheckFault}
use Rattle.us_check.specs.declared.faults.CheckFault.TheVariants as check
use Rattle.us_check.specs.declared.verdicts.Verdict.{Verdict}
use Rattle.us_check.specs.declared.verdicts.Verdict.TheVariants as verdict
use Rattle.us_replay.specs.declared.faults.RunFault.{RunFault}
use Rattle.us_listing.specs.declared.worst.Worst.{Worst}
use Rattle.us_listing.specs.declared.worst.Worst.TheVariants as worst
use Rattle.us_replay.specs.declared.faults.RunFault.TheVariants as run
use Rattle.mapsim.specs.declared.statuses.Status.{Status}
use Rattle.mapsim.specs.declared.statuses.Status.TheVariants as status
use Rattle.mapsim.specs.declared.faults.Fault.{Fault}
use Rattle.mapsim.specs.declared.faults.Fault.TheVariants as fault

abbrev pub code_of : Status → ℕ
code_of status.Done = 0
code_of status.Broken = 1
code_of status.Warned = 1
code_of status.Usage = 2
code_of status.Refused = 3
code_of status.DeviceFailed = 4
code_of status.NoMemory = 5

abbrev pub config_status : ConfigFault → Status
config_status config.NoMemory = status.NoMemory
config_status _ = status.Refused

abbrev pub trace_status : TraceFault → Status
trace_status trace.Read = status.DeviceFailed
trace_status trace.NoMemory = status.NoMemory
trace_status _ = status.Refused

abbrev pub run_status : RunFault → Status
run_status run.Rounds = status.Refused
run_status run.Workers = status.Refused
run_status (run.Trace f) = trace_status f
run_status (run.WriteMaps rounds) = status.DeviceFailed
run_status (run.WriteReport rounds) = status.DeviceFailed
run_status (run.NoMemory rounds) = status.NoMemory

abbrev pub map_status : MapFault → Status
map_status map.NoMemory = status.NoMemory
map_status _ = status.Refused

abbrev pub check_status : CheckFault → Status
check_status check.NoMemory = status.NoMemory
check_status _ = status.Refused

-- the status that a fault gives
abbrev pub status_of : Fault → Status
status_of (fault.Usage text) = status.Usage
status_of fault.Pipe = status.Refused
status_of (fault.Config f) = config_status f
status_of (fault.Run f) = run_status f
status_of (fault.Map f index) = map_status f
status_of (fault.Check f) = check_status f
status_of (fault.Device stream) = status.DeviceFailed
status_of fault.NoMemory = status.NoMemory

-- and a verdict
abbrev pub verdict_status : Verdict → Status
verdict_status verdict.Holds = status.Done
verdict_status (verdict.Broken rule round channel place) = status.Broken

-- and the worst that a lint finds
abbrev pub lint_status : Worst → Status
lint_status worst.Nothing = status.Done
lint_status worst.Warning = status.Warned
lint_status worst.Error = status.Refused
