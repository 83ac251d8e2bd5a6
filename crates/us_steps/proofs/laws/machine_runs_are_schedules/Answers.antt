use Rattle.us_steps.proofs.RunLaws.{machine_runs_are_schedules}
use Rattle.us_steps.proofs.laws.machine_runs_are_schedules.Goals as goal

pub returns : goal.returns
returns c = machine_runs_are_schedules
