use Rattle.us_lawful.specs.Runs.{run_in}
use Rattle.us_lawful.specs.Credits.{credit_lines_hold, credits_hold, sums_hold}
use Rattle.us_reports.proofs.BreachLemmas.{both_tests, holds_first}
use Rattle.us_credit_rules.specs.Ends.{first_of}
use Rattle.us_credit_rules.specs.Ledgers.{sum_place}
use Rattle.us_credit_rules.proofs.RepeatLemmas.{lines_first}
use Rattle.us_credit_rules.proofs.RuleLemmas.{sums_first}
use Rattle.us_credit_rules.proofs.credits.credits_breach.Goals as goal

pub returns : goal.returns
returns c = λ v judged are.
    let t = c.args.config.now in
    let run = run_in t v in
    let kept = c.args.lines.now in
    let wrong = lines_first t v judged.lines kept.requests.repeats.first c.channels.ensures.lawful are.requests.wrong in
    rw (c.earlier.ensures, c.channels.ensures.value, c.first_sum-sum.ensures)
    (holds_first t.channels (credits_hold run judged) _
    (both_tests t.channels (credit_lines_hold run judged) (sums_hold run judged) kept.requests.repeats.first
    (first_of t.channels (sum_place kept.requests.ledger.accounts.items) kept.seats) wrong (sums_first t v judged kept are)))
