use Rattle.std.proofs.Common.{rules}
use denote.Param.Send.{sendable}
use Rattle.us_intake.proofs.seats.Seat.TheSendSync.{the_send as seat_send}
use Rattle.us_intake.proofs.intakes.Intake.TheSendSync.{the_sync as intake_sync}
use Rattle.us_live.proofs.SendLemmas.{live_send}
use Rattle.us_live.proofs.tests.threads.run.Goals as goal

pub join-live-requires-send-F : goal.join-live-requires-send-F
join-live-requires-send-F g c κs within = search (live_send, seat_send, intake_sync, sendable, rules) depth 40

pub join-live-requires-send-A : goal.join-live-requires-send-A
join-live-requires-send-A g c κs within = search (live_send, seat_send, sendable, rules) depth 30
