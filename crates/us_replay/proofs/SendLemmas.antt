-- The mail of a run may be shared by threads.
use denote.RattleType.{RattleType}
use denote.Ref.{NamedLft}
use denote.Param.Send.{IsSend, IsSync, sendable}
use Rattle.std.proofs.Crossing.{crosses}
use Rattle.us_intake.proofs.seats.Seat.TheSendSync.{the_send as seat_send}
use Rattle.us_intake.proofs.faults.IntakeFault.TheSendSync.{the_send as fault_send}
use Rattle.us_requests.proofs.asks.Ask.TheSendSync.{the_sync as ask_sync}
use Rattle.us_crew.specs.declared.gates.Gate as gate
use Rattle.us_crew.proofs.SendLemmas.{mailboxes_sync}
use Rattle.us_round.proofs.SendLemmas.{round_mail_sync}
use Rattle.us_replay.specs.contracts.doers.kept.RunMail as run_mail
use Rattle.us_replay.proofs.collecting.submitting.Submitting.TheSendSync.{the_send as submitting_send}

pub run_mail_sync : (a m : NamedLft) (G : RattleType) (k : gate.Ghosts G.Denot) → IsSend G → IsSync (run_mail.the_row a m G k)
run_mail_sync a m G k g =
    search (mailboxes_sync, round_mail_sync, submitting_send, seat_send, fault_send, ask_sync, sendable, crosses) depth 30
