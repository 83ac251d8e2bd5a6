-- What is kept of the lines of a report.
use Rattle.std.specs.Prelude.{◌≡◌, ℕ, ◌||◌, nat_le, not, Bool, true, if◌then◌else◌, List, length}
use Rattle.us_flows.specs.Tables.{Tables}
use Rattle.us_flows.specs.Clusters.{table_order, words_of}
use Rattle.us_requests.specs.Traces.{TraceAsks}
use Rattle.us_output.specs.declared.rows.Row.{Row}
use Rattle.us_output.specs.declared.rows.Row.TheVariants as rows
use Rattle.us_lawful.specs.Runs.{activities_in, counts_in, finals_in, requested_in}
use Rattle.us_reports.specs.Rows.{is_requested}
use Rattle.us_credit_rules.specs.declared.credit_lines.CreditLines.{CreditLines}
use Rattle.us_credit_rules.specs.Activities.{AreTalkers}
use Rattle.us_credit_rules.specs.Requests.{AreRequests}
use Rattle.us_credit_rules.specs.Seats.{word_of}
use Rattle.us_credit_rules.specs.Tellings.{AreTold, told_by}

-- Behind requests up to a round, a line may be told next that is of no request, or of no earlier round.
abbrev pub is_due : ℕ → Row → Bool
is_due latest (rows.Granted g) = not (is_requested g.entry) || nat_le latest g.round
is_due latest _ = true

-- and then this is the latest round of a request
abbrev pub latest_behind : ℕ → Row → ℕ
latest_behind latest (rows.Granted g) = if is_requested g.entry then g.round else latest
latest_behind latest _ = latest

-- what is kept of lines that were told in this order
pub record AreKept (t : Tables) (v : TraceAsks) (lines : List Row) (kept : CreditLines) : Type 0 where
  pub seats : kept.seats ≡ table_order t
  pub requests : AreRequests t v (requested_in lines) kept.requests
  pub finals :
      AreTold t.channels v.rounds (length (words_of t)) (λ f. f.flow)
      (λ f. word_of f.flow f.cluster (table_order t)) (finals_in lines) kept.finals
  pub talkers : AreTalkers t v (activities_in lines) kept.talkers
  pub counts : kept.counts ≡ told_by (counts_in lines)
