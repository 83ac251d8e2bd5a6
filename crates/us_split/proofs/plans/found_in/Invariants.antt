use Rattle.std.proofs.Common.{◌≡◌, drop}
use Rattle.std.specs.Prelude.{find}
use Rattle.us_split.specs.Claims.{is_at}
use Rattle.us_split.proofs.plans.found_in.Given as goal

-- the claim isn't among those before
abbrev pub invariant-loop-claim : goal.invariant-loop-claim
invariant-loop-claim l = find (is_at l.turn l.position) (drop l.claim-index l.claims) ≡ find (is_at l.turn l.position) l.claims
