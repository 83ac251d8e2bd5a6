use Rattle.std.proofs.Common.{rules}
use denote.Param.Send.{sendable}
use Rattle.us_round.proofs.SendLemmas.{round_mail_sync}
use Rattle.us_round.proofs.rounds.step_by_crew.Goals as goal

pub with_crew-requires-sync-M : goal.with_crew-requires-sync-M
with_crew-requires-sync-M g c κs within = search (round_mail_sync, sendable, rules)
