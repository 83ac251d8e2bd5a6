use Rattle.std.proofs.Common.{drop}
use Rattle.us_round.specs.Cores.{IsCrediting}
use Rattle.us_round.proofs.cores.crediting.credit_grants.Given as goal

abbrev pub invariant-loop-grant : goal.invariant-loop-grant
invariant-loop-grant l =
    IsCrediting (drop l.grant-index l.grants) l.grants l.fn.askers l.askers l.fn.buckets l.buckets
