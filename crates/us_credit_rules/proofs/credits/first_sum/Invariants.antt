use Rattle.std.proofs.Common.{◌≡◌, take}
use Rattle.us_credit_rules.specs.Ends.{first_of}
use Rattle.us_credit_rules.specs.Ledgers.{sum_place}
use Rattle.us_credit_rules.proofs.credits.first_sum.Given as goal

abbrev pub invariant-loop-seat : goal.invariant-loop-seat
invariant-loop-seat l =
    l.first ≡ first_of l.config.channels (sum_place l.lines.requests.ledger.accounts.items) (take l.seat-index l.seat-items)
