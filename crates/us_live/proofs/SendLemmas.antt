-- A scheduler may go to another thread.
use denote.Param.Send.{IsSend, sendable}
use Rattle.std.proofs.Crossing.{crosses}
use Rattle.us_round.proofs.SendLemmas.{state_send}
use Rattle.us_live.specs.contracts.lives.Live as live

pub live_send : IsSend live.the_row
live_send = search (state_send, sendable, crosses) depth 30
