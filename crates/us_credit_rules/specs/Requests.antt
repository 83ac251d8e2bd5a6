-- What lines of requests come to, told one after another in the order of rounds.
use Rattle.std.specs.Prelude.{◌≡◌, ℕ, ◌+◌, ◌≤◌, true, List, [], ◌∷◌, length}
use Rattle.us_flows.specs.Tables.{Tables, rounds_fit}
use Rattle.us_flows.specs.Clusters.{table_order, words_of}
use Rattle.us_requests.specs.Traces.{TraceAsks}
use Rattle.us_output.specs.declared.rows.Grant.{Grant}
use Rattle.us_reports.specs.Breaches.{IsFirstFailure}
use Rattle.us_credit_rules.specs.declared.requests.Requests.{Requests}
use Rattle.us_credit_rules.specs.Buckets.{credited_all}
use Rattle.us_credit_rules.specs.Ledgers.{AreAsked, AreCredited}
use Rattle.us_credit_rules.specs.Repeats.{AreNoted, AreWrong}

-- their rounds don't fall, from one up to another
abbrev pub RisesTo : ℕ → ℕ → List Grant → Type 0
RisesTo from latest [] = from ≤ latest
RisesTo from latest (g ∷ grants) = (from ≤ g.round) × RisesTo g.round latest grants

-- what is kept of them
pub record AreRequests (t : Tables) (v : TraceAsks) (grants : List Grant) (kept : Requests) : Type 0 where
  pub fits : rounds_fit t v.rounds ≡ true
  pub rises : RisesTo 0 kept.latest grants
  pub begun : kept.ledger.begun ≤ kept.latest + 1
  pub long : length kept.ledger.accounts.items ≡ length (words_of t)
  pub words : length kept.ledger.asked.items ≡ length (words_of t)
  pub asked : AreAsked v kept.ledger.begun kept.ledger.asked.items
  pub credited : AreCredited v (table_order t) grants kept.ledger.accounts.items
  pub flows : kept.flows.items ≡ credited_all v.rounds t grants
  pub noted : AreNoted (table_order t) grants kept.latest kept.repeats.last.items
  pub wrong : IsFirstFailure t.channels (AreWrong t.channels (table_order t) grants) kept.repeats.first
