use Rattle.std.proofs.Common.{rules}
use denote.RattleType.{RattleType}
use denote.Ref.{NamedLft}
use denote.Param.Send.{IsSend, IsSync, sendable}
use Rattle.std.proofs.Crossing.{crosses}
use Rattle.us_crew.specs.declared.gates.Gate as gate
use Rattle.us_crew.proofs.SendLemmas.{mailboxes_sync}
use Rattle.us_crew_tests.specs.contracts.tests.kept_base.BothMail as both_mail
use Rattle.us_crew_tests.proofs.tests.base.Doubling.TheSendSync.{the_send as doubling_send}
use Rattle.us_crew_tests.proofs.tests.kept_base.Halving.TheSendSync.{the_send as halving_send}
use Rattle.us_crew_tests.proofs.tests.kept_base.by_kept.Goals as goal

both_mail_sync : (a : NamedLft) (G : RattleType) (k : gate.Ghosts G.Denot) → IsSend G → IsSync (both_mail.the_row a G k)
both_mail_sync a G k g = search (mailboxes_sync, doubling_send, halving_send, sendable, crosses) depth 30

pub with_crew-requires-sync-M : goal.with_crew-requires-sync-M
with_crew-requires-sync-M g c κs within = search (both_mail_sync, sendable, rules)
