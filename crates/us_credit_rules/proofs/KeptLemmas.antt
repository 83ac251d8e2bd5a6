-- What is kept of the lines of a run says what the run's rules read of them.
use Rattle.std.proofs.Common.{◌≡◌, ℕ, ◌<◌, ◌*◌, true, List, [], ◌∷◌, ◌++◌, length, Some, ap, subst, sym, ◌∙◌}
use Rattle.std.specs.Prelude.{nat_le, filter, slice_get}
use Rattle.std.specs.List.{AllByRecursion}
use Rattle.std.proofs.lemmas.Bool.{and_parts, leb-true}
use Rattle.std.proofs.lemmas.List.{append-nil}
use Rattle.std.proofs.lemmas.List.Elements.{filter-append, filter_map-append}
use Rattle.us_flows.specs.Tables.{FlowTable, Tables, max_run_ticks}
use Rattle.us_flows.specs.Lawful.{AreTables}
use Rattle.us_flows.proofs.TurnLaws.{table_order-turns}
use Rattle.us_flows.specs.Clusters.{Turn, IsTurnIn, table_order, makes_requests, words_of}
use Rattle.us_requests.specs.Traces.{TraceAsks}
use Rattle.us_output.proofs.PartLemmas.{all_both}
use Rattle.us_output.specs.declared.rows.FinalState.{FinalState}
use Rattle.us_output.specs.declared.rows.Grant.{Grant}
use Rattle.us_output.specs.declared.rows.Row.{Row}
use Rattle.us_lawful.specs.Runs.{activities_in, as_activity, as_counts, as_final, as_grant, counts_in, finals_in, grants_in, requested_in, run_in}
use Rattle.us_reports.specs.Rows.{is_requested}
use Rattle.us_credit_rules.specs.declared.credit_lines.CreditLines.{CreditLines}
use Rattle.us_credit_rules.specs.Activities.{AreTalkers}
use Rattle.us_credit_rules.specs.Buckets.{account_of}
use Rattle.us_credit_rules.specs.CreditLines.{AreKept}
use Rattle.us_credit_rules.specs.Ledgers.{IsCredited, account_at}
use Rattle.us_credit_rules.specs.Requests.{AreRequests}
use Rattle.us_credit_rules.specs.Seats.{word_of}
use Rattle.us_credit_rules.specs.Tellings.{AreTold, told_by}
use Rattle.us_credit_rules.proofs.FlowLemmas.{IsFlowAccountOf, flow_is}

-- the account of a flow that makes requests
pub flow_account : (t : Tables) (v : TraceAsks) (lines : List Row) (kept : CreditLines) (i : ℕ) (flow : FlowTable) →
    AreTables t → slice_get t.flows i ≡ Some flow → makes_requests flow.kind ≡ true → AreKept t v lines kept →
    IsFlowAccountOf (run_in t v) lines flow (account_of kept.requests.flows.items i)
flow_account t v lines kept i flow lawful at asks are =
    let requests = are.requests in
    let some : 0 < v.rounds =
    leb-true 1 v.rounds (and_parts (nat_le 1 v.rounds) (nat_le (v.rounds * t.round_ticks) max_run_ticks) requests.fits).0 in
    rw requests.flows (flow_is t v lines kept.requests.latest i flow lawful at asks some requests.rises)

-- and each cluster, with its account
abbrev pub IsCreditedTurn : Tables → TraceAsks → List Row → CreditLines → Turn → Type 0
IsCreditedTurn t v told kept turn =
    IsTurnIn t turn × IsCredited v (requested_in told) turn (account_at kept.requests.ledger.accounts.items turn.number)

pub credited_turns : (t : Tables) (v : TraceAsks) (told : List Row) (kept : CreditLines) → AreKept t v told kept →
    AllByRecursion (IsCreditedTurn t v told kept) (table_order t)
credited_turns t v told kept are =
    all_both (IsTurnIn t)
    (λ turn. IsCredited v (requested_in told) turn (account_at kept.requests.ledger.accounts.items turn.number))
    (table_order t) (table_order-turns t) are.requests.credited

-- With one line more.

module _ (t : Tables) (v : TraceAsks) (lines : List Row) (kept : CreditLines) (are : AreKept t v lines kept) where
  -- what it says nothing of stays
  pub same_requests : AreRequests t v (requested_in lines ++ []) kept.requests
  same_requests = subst (λ grants. AreRequests t v grants kept.requests) (sym (append-nil (requested_in lines))) are.requests

  pub same_finals :
      AreTold t.channels v.rounds (length (words_of t)) (λ f. f.flow) (λ f. word_of f.flow f.cluster (table_order t))
      (finals_in lines ++ []) kept.finals
  same_finals =
      subst (λ finals. AreTold t.channels v.rounds (length (words_of t)) (λ (f : FinalState). f.flow)
      (λ f. word_of f.flow f.cluster (table_order t)) finals kept.finals) (sym (append-nil (finals_in lines))) are.finals

  pub same_talkers : AreTalkers t v (activities_in lines ++ []) kept.talkers
  same_talkers = subst (λ told. AreTalkers t v told kept.talkers) (sym (append-nil (activities_in lines))) are.talkers

  pub same_counts : kept.counts ≡ told_by (counts_in lines ++ [])
  same_counts = are.counts ∙ ap told_by (sym (append-nil (counts_in lines)))

  pub with_line : (row : Row) (after : CreditLines) → after.seats ≡ kept.seats →
      AreRequests t v (requested_in lines ++ requested_in (row ∷ [])) after.requests →
      AreTold t.channels v.rounds (length (words_of t)) (λ f. f.flow) (λ f. word_of f.flow f.cluster (table_order t))
      (finals_in lines ++ finals_in (row ∷ [])) after.finals →
      AreTalkers t v (activities_in lines ++ activities_in (row ∷ [])) after.talkers →
      after.counts ≡ told_by (counts_in lines ++ counts_in (row ∷ [])) → AreKept t v (lines ++ row ∷ []) after
  with_line row after seats requests finals talkers counts = record {
    seats = seats ∙ are.seats;
    requests = subst (λ grants. AreRequests t v grants after.requests) (sym (ap (filter (λ (g : Grant). is_requested g.entry))
        (filter_map-append as_grant lines (row ∷ []))
        ∙ filter-append (λ (g : Grant). is_requested g.entry) (grants_in lines) (grants_in (row ∷ [])))) requests;
    finals = subst (λ told. AreTold t.channels v.rounds (length (words_of t)) (λ (f : FinalState). f.flow)
        (λ f. word_of f.flow f.cluster (table_order t)) told after.finals)
        (sym (filter_map-append as_final lines (row ∷ []))) finals;
    talkers = subst (λ told. AreTalkers t v told after.talkers) (sym (filter_map-append as_activity lines (row ∷ []))) talkers;
    counts = counts ∙ ap told_by (sym (filter_map-append as_counts lines (row ∷ [])));
  }
