use Rattle.std.proofs.Common.{◌≡◌, ◌++◌, drop}
use Rattle.us_requests.specs.Outcomes.{units_of}
use Rattle.us_requests.proofs.AskLemmas.{units_in}
use Rattle.us_requests.proofs.traces.units_of.Given as goal

abbrev pub invariant-loop-flow : goal.invariant-loop-flow
invariant-loop-flow l = l.units.items ++ units_in (drop l.flow-index l.config.flows) ≡ units_of l.config
