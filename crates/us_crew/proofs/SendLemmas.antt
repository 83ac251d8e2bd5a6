-- Mailboxes may be shared by threads, where the tasks and their answers may be given to them.
use denote.RattleType.{RattleType}
use denote.Param.Send.{IsSend, IsSync, sendable}
use Rattle.std.proofs.Crossing.{crosses}
use Rattle.rtrb.proofs.end.End.TheSendSync.{the_send as end_send}
use Rattle.atomic_table.proofs.shared.Shared.TheSendSync.{the_sync as shared_sync}
use Rattle.atomic_table.proofs.send_lease.SendLease.TheSendSync.{the_sync as lease_sync}
use Rattle.us_crew.specs.declared.works.Work as work
use Rattle.us_crew.specs.declared.gates.Gate as gate
use Rattle.us_crew.specs.contracts.orders.Order as order
use Rattle.us_crew.specs.contracts.mailboxes.Mailboxes as mailboxes

module _ (W G T R E : RattleType) (w : work.Ghosts W.Denot T.Denot R.Denot E.Denot) (k : gate.Ghosts G.Denot) where
  pub order_send : IsSend W → IsSend G → IsSend T → IsSend R → IsSend E → IsSend (order.the_row W G T R E w)
  order_send a b c d e = search (end_send, sendable, crosses) depth 30

  pub mailboxes_sync : IsSend W → IsSend G → IsSend T → IsSend R → IsSend E → IsSync (mailboxes.the_row W G T R E w k)
  mailboxes_sync a b c d e = search (order_send, shared_sync, lease_sync, sendable, crosses) depth 30
