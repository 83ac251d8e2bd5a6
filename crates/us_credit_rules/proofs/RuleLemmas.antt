-- Rules of credits: where the bucket of a flow lacks the bytes of a credit, or a cluster is credited more than is outstanding.
use Rattle.std.proofs.Common.{◌≡◌, ℕ, ◌+◌, ◌<◌, ◌==◌, Bool, true, false, List, Option, Some, None, sym, ap, subst, inl, inr, refl, arith}
use Rattle.std.specs.Prelude.{◌&&◌, ◌||◌, if◌then◌else◌, not, nat_lt, slice_get}
use Rattle.std.specs.List.{list_all, range_with_len}
use Rattle.std.proofs.lemmas.Bool.{cases_Bool, or_left, eqb-false}
use Rattle.us_flows.specs.declared.channels.Channel.{Channel}
use Rattle.us_flows.specs.declared.flows.SchedulingType.{SchedulingType}
use Rattle.us_flows.specs.declared.flows.SchedulingType.TheVariants.{BestEffort, NonRealTimePolling, RealTimePolling, ActivityDetection, UnsolicitedGrant}
use Rattle.us_flows.specs.Tables.{Tables, FlowTable}
use Rattle.us_flows.specs.Clusters.{makes_requests, Turn, table_order}
use Rattle.us_flows.specs.Lawful.{AreTables, HasNoOthers, IsFlow}
use Rattle.us_requests.specs.Traces.{TraceAsks}
use Rattle.us_output.proofs.PartLemmas.{all_found, all_weaker}
use Rattle.us_reports.specs.declared.place.Place.{Place}
use Rattle.us_lawful.specs.Runs.{Run, Judged, run_in}
use Rattle.us_lawful.specs.Rates.{flow_credits, flow_rate_holds, rates_hold, span_holds}
use Rattle.us_reports.specs.Breaches.{IsFirstFailure, IsFirstBreach, Any}
use Rattle.us_reports.proofs.BreachLemmas.{holds_first}
use Rattle.us_credit_rules.specs.declared.credit_lines.CreditLines.{CreditLines}
use Rattle.us_credit_rules.specs.Buckets.{account_of, rate_place}
use Rattle.us_credit_rules.specs.CreditLines.{AreKept}
use Rattle.us_credit_rules.specs.Shorts.{flow_place}
use Rattle.us_credit_rules.proofs.PlaceLemmas.{all_tested, flow_first, flow_test}
use Rattle.us_credit_rules.proofs.EndLemmas.{first_among}
use Rattle.us_credit_rules.proofs.KeptLemmas.{IsCreditedTurn, credited_turns, flow_account}
use Rattle.us_credit_rules.proofs.LedgerLemmas.{short_is}
use Rattle.us_credit_rules.specs.Ends.{first_of}
use Rattle.us_credit_rules.specs.declared.ledgers.Account.{Account}
use Rattle.us_lawful.specs.Credits.{sum_holds, sums_hold}
use Rattle.us_credit_rules.specs.Ledgers.{account_at, sum_place}

-- Rates.

-- the rule of one flow
abbrev pub rate_test : Run → Judged → FlowTable → Place → Bool
rate_test run judged flow p = flow_test run.rounds flow.id (λ round. flow_rate_holds run judged round flow) p

-- a flow that makes no requests has no rate
rate_asks : (flow : FlowTable) (kind : SchedulingType) → 0 < flow.rate → HasNoOthers flow kind → makes_requests kind ≡ true
rate_asks flow BestEffort limited others = refl
rate_asks flow NonRealTimePolling limited others = refl
rate_asks flow RealTimePolling limited others = refl
rate_asks flow ActivityDetection limited others = absurd (omega (arith, limited, others.rate))
rate_asks flow UnsolicitedGrant limited others = absurd (omega (arith, limited, others.rate))

-- its first breach
pub rate_first : (channels : List Channel) (t : Tables) (v : TraceAsks) (judged : Judged) (kept : CreditLines) (i : ℕ)
    (flow : FlowTable) → AreTables t → slice_get t.flows i ≡ Some flow → AreKept t v judged.lines kept →
    IsFirstFailure channels (λ p. rate_test (run_in t v) judged flow p ≡ false)
    (rate_place flow (account_of kept.requests.flows.items i))
rate_first channels t v judged kept i flow lawful at are = elim (cases_Bool (flow.rate == 0)) [
  | inl none ↦
      subst Fails (sym (ap answer none)) (flow_first channels v.rounds flow.id test None (λ round within.
      or_left (flow.rate == 0) (list_all (span_holds t flow (flow_credits (run_in t v) judged.lines flow.id) round)
      (range_with_len 0 (round + 1))) none))
  | inr some ↦
      let limited : 0 < flow.rate = omega (arith, eqb-false flow.rate 0 some) in
      let asks = rate_asks flow flow.kind limited (all_found (IsFlow t) t.flows i flow lawful.flows at).others in
      subst Fails (sym (ap answer some)) (flow_first channels v.rounds flow.id test short
      ((flow_account t v judged.lines kept i flow lawful at asks are).short limited))
]
  where
    test : ℕ → Bool
    test round = flow_rate_holds (run_in t v) judged round flow

    short : Option ℕ
    short = (account_of kept.requests.flows.items i).short

    answer : Bool → Option Place
    answer none = if none then None else flow_place flow.id short

    Fails : Option Place → Type 0
    Fails = IsFirstFailure channels (λ p. rate_test (run_in t v) judged flow p ≡ false)

-- and the whole rule
pub rates_first : (channels : List Channel) (run : Run) (judged : Judged) (answer : Option Place) →
    IsFirstFailure channels (Any (λ flow p. rate_test run judged flow p ≡ false) run.tables.flows) answer →
    IsFirstBreach channels (λ p. rates_hold run judged p ≡ true) answer
rates_first channels run judged answer first =
    holds_first channels (rates_hold run judged) answer
    (all_tested (λ p. not ((p.channel == 0) && nat_lt p.round run.rounds))
    (λ flow p. not (flow.id == p.third) || flow_rate_holds run judged p.round flow) channels run.tables.flows answer first)

-- Sums.

-- the rule of one cluster
abbrev pub sum_test : Run → Judged → Turn → Place → Bool
sum_test run judged turn p =
    flow_test run.rounds turn.cluster.flow.id (λ round. sum_holds run judged.lines round turn) p

-- and the first breach of all clusters
pub sums_first : (t : Tables) (v : TraceAsks) (judged : Judged) (kept : CreditLines) → AreKept t v judged.lines kept →
    IsFirstFailure t.channels (λ p. sums_hold (run_in t v) judged p ≡ false)
    (first_of t.channels (sum_place kept.requests.ledger.accounts.items) kept.seats)
sums_first t v judged kept are =
    let run : Run = run_in t v in
    let accounts : List Account = kept.requests.ledger.accounts.items in
    let turns : List Turn = table_order t in
    let Fails : Turn → Place → Type 0 = λ turn p. sum_test run judged turn p ≡ false in
    all_tested (λ p. not ((p.channel == 0) && nat_lt p.round run.rounds))
    (λ turn p. not (turn.cluster.flow.id == p.third) || sum_holds run judged.lines p.round turn) t.channels turns
    (first_of t.channels (sum_place accounts) kept.seats)
    (subst (λ seats. IsFirstFailure t.channels (Any Fails turns) (first_of t.channels (sum_place accounts) seats)) (sym are.seats)
    (first_among t.channels Fails (sum_place accounts) turns
    (all_weaker (IsCreditedTurn t v judged.lines kept) (λ turn. IsFirstFailure t.channels (Fails turn) (sum_place accounts turn))
    (λ turn is. flow_first t.channels v.rounds turn.cluster.flow.id (λ round. sum_holds run judged.lines round turn)
    (account_at accounts turn.number).short
    (short_is t v judged.lines turn (account_at accounts turn.number) is.0.number is.1)) turns
    (credited_turns t v judged.lines kept are))))
