use Rattle.std.proofs.Common.{◌≡◌, take}
use Rattle.us_flows.proofs.listed.flows.Flows.copied.Given as goal

-- so many flows are copied
abbrev pub invariant-loop-flow : goal.invariant-loop-flow
invariant-loop-flow l = l.copy ≡ take l.flow-index l.flows
