use Rattle.std.proofs.Common.{◌<◌, ℕ, length, map, ap, ◌∙◌, arith}
use Rattle.std.specs.List.{AllByRecursion}
use Rattle.std.proofs.lemmas.List.{length-replicate}
use Rattle.us_flows.specs.Clusters.{Turn, table_order}
use Rattle.us_flows.specs.Tables.{FlowTable}
use Rattle.us_credit_rules.specs.Buckets.{full_account}
use Rattle.us_credit_rules.specs.Ledgers.{nothing}
use Rattle.us_credit_rules.proofs.LedgerLemmas.{start_asked, start_credited}
use Rattle.us_credit_rules.proofs.RepeatLemmas.{start_noted}
use Rattle.us_credit_rules.proofs.SeatLemmas.{are_named}
use Rattle.us_credit_rules.proofs.requests.Requests.new.Goals as goal

pub returns-clause-kept : goal.returns-clause-kept
returns-clause-kept c = λ v fits.
    let t = c.args.config.now in
    let words = c.clusters.result in
    let made = c.in_ok-ledger.ensures in
    let inside : AllByRecursion (λ (turn : Turn). turn.number < words) (table_order t) =
    rw c.clusters.ensures.value (are_named t c.clusters.ensures.lawful).inside in
    record {
      fits = fits;
      rises = omega arith;
      begun = omega (arith, made.begun);
      words = ap length made.asked ∙ length-replicate {A = ℕ} words 0 ∙ c.clusters.ensures.value;
      long = ap length made.accounts ∙ length-replicate words nothing ∙ c.clusters.ensures.value;
      asked = rw (made.begun, made.asked) (start_asked v words);
      credited = rw made.accounts (start_credited v (table_order t) words inside);
      flows = c.in_ok-flows.ensures
          ∙ ap (map (λ (flow : FlowTable). full_account flow.rate flow.burst)) c.flows.ensures.value;
      noted = rw (c.in_ok-repeats.ensures.0, c.clusters-2.ensures.value, ← c.clusters.ensures.value) (start_noted (table_order t) words inside);
      wrong = rw c.in_ok-repeats.ensures.1 (λ p fails. fails);
    }
