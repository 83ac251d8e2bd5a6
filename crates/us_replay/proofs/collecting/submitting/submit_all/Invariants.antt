use Rattle.std.proofs.Common.{◌≡◌, take}
use Rattle.us_replay.specs.Collecting.{seat_after_asks}
use Rattle.us_replay.proofs.collecting.submitting.submit_all.Given as goal

abbrev pub invariant-loop-ask : goal.invariant-loop-ask
invariant-loop-ask l = l.seat ≡ seat_after_asks l.fn.seat (take l.ask-index l.asks)
