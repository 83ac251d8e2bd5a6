use Rattle.std.proofs.Common.{◌≡◌}
use Rattle.rtrb.specs.Ring.{received}
use Rattle.us_crew.proofs.pendings.Pending.answer.Given as goal

-- nothing has come yet
abbrev pub invariant-loop : goal.invariant-loop
invariant-loop g l = received l.answers ≡ received l.initial.answers
