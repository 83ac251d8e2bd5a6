use denote.Param.Send.{sendable}
use Rattle.us_round.proofs.SendLemmas.{state_send}
use Rattle.us_round.proofs.tests.sending.there_and_back.Goals as goal

pub join-kept-requires-send-F : goal.join-kept-requires-send-F
join-kept-requires-send-F g c κs within = search (state_send, sendable) depth 30

pub join-kept-requires-send-A : goal.join-kept-requires-send-A
join-kept-requires-send-A g c κs within = search (state_send, sendable) depth 30
