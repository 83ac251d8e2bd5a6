use Rattle.std.proofs.Common.{◌≡◌, vec_len}
use Rattle.us_crew.proofs.mailboxes.Mailboxes.open.Given as goal

abbrev pub invariant-loop : goal.invariant-loop
invariant-loop g l = vec_len l.boxes ≡ l.counter
