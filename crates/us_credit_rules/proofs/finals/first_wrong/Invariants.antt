use Rattle.std.proofs.Common.{◌≡◌, take}
use Rattle.us_credit_rules.specs.Ends.{first_of}
use Rattle.us_credit_rules.specs.LastLines.{final_place}
use Rattle.us_credit_rules.proofs.finals.first_wrong.Given as goal

abbrev pub invariant-loop-seat : goal.invariant-loop-seat
invariant-loop-seat l =
    l.first ≡ first_of l.config.channels
    (final_place l.time.rounds l.time.round_ticks l.asked l.lines.requests l.lines.finals.told.items)
    (take l.seat-index l.seat-items)
