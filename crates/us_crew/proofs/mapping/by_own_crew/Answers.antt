use denote.Param.Send.{sendable}
use Rattle.std.proofs.Common.{rules}
use Rattle.std.proofs.Crossing.{crosses}
use Rattle.us_crew.proofs.SendLemmas.{mailboxes_sync}
use Rattle.us_crew.proofs.mapping.by_own_crew.Goals as goal

pub with_crew-requires-sync-M : goal.with_crew-requires-sync-M
with_crew-requires-sync-M g c κs within = search (mailboxes_sync, sendable, crosses, rules) depth 30
