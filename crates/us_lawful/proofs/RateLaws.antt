-- The bytes that lines credit to a flow keep its bound over every span of rounds.
use Rattle.std.proofs.Common.{◌≡◌, ℕ, ◌+◌, ◌-◌, ◌*◌, ◌<◌, ◌==◌, eq-eqb, ne_eqb, Bool, true, List, length, map, cond, Some, refl, sym, ap, subst, ◌∙◌, arith, inl, inr}
use Rattle.std.specs.Prelude.{◌&&◌, ◌||◌, not, nat_lt, slice_get}
use Rattle.std.specs.List.{list_all, range_with_len}
use Rattle.std.proofs.lemmas.Bool.{cases_lt, le-leb, or_left, or_right}
use Rattle.std.proofs.lemmas.Bool.Decides.{nat_tests}
use Rattle.std.proofs.lemmas.List.{length-map}
use Rattle.std.proofs.lemmas.Simd.{map-map}
use Rattle.us_flows.specs.Tables.{Tables, FlowTable, rounds_fit}
use Rattle.us_flows.specs.Lawful.{AreTables}
use Rattle.us_bucket.specs.Levels.{units_per_byte}
use Rattle.us_bucket.specs.Allowances.{Limit, KeepsBound}
use Rattle.us_bucket.specs.Spans.{credited}
use Rattle.us_requests.specs.declared.asks.Counts.{Counts}
use Rattle.us_output.specs.declared.rows.Row.{Row}
use Rattle.us_round.specs.Rounds.{State, opening, is_of_flow}
use Rattle.us_round.specs.ScheduleLaws.{AreCuts}
use Rattle.us_round.proofs.ScheduleLaws.{rounds_are_numbered}
use Rattle.us_reports.specs.declared.place.Place.{Place}
use Rattle.us_lawful.specs.Rates.{flow_credit, flow_credits, flow_rate_holds, rates_hold, span_holds}
use Rattle.us_lawful.specs.Output.{output_of, judged_of, run_of}
use Rattle.us_lawful.proofs.TestLemmas.{all_pass}
use Rattle.us_lawful.proofs.SumLemmas.{sum_single}
use Rattle.us_lawful.proofs.CreditLineLaws.{all_placed}
use Rattle.us_lawful.proofs.ItemLemmas.{all_in_range, map_same}
use Rattle.us_lawful.proofs.RoundLemmas.{rounds_apart, rounds_long, rounds_of}
use Rattle.us_lawful.proofs.CreditSumLemmas.{flow_grants, lines_credit}
use Rattle.us_lawful.proofs.BucketLemmas.{flow_bytes, flow_keeps}

-- Credits by lines.

-- of a round
flow_credit_is : (t : Tables) (cuts : List (List ℕ)) (counts : Counts) → AreTables t → AreCuts t cuts →
    (place : ℕ) (flow : FlowTable) → slice_get t.flows place ≡ Some flow →
    (r : ℕ) (s : State) → slice_get (rounds_of t cuts) r ≡ Some s →
    flow_credit (judged_of (output_of t cuts counts)).lines flow.id s.round ≡ flow_bytes place s
flow_credit_is t cuts counts lawful long place flow at r s there =
    let same : cond {A = ℕ} (s.round == s.round) (flow_bytes place s) 0 ≡ flow_bytes place s =
    ap (λ b. cond {A = ℕ} b (flow_bytes place s) 0) (eq-eqb s.round s.round refl) in
    lines_credit (λ id list. id == flow.id) (λ round. round == s.round) (is_of_flow place) t cuts counts lawful long
    (flow_grants t cuts place flow lawful long at)
    ∙ sum_single (λ (s : State). s.round) (λ (other : State). cond (other.round == s.round) (flow_bytes place other) 0)
    (rounds_of t cuts) r s (rounds_apart t cuts) there
    (λ other apart. ap (λ b. cond b (flow_bytes place other) 0) (ne_eqb other.round s.round apart))
    ∙ same

-- and of each
pub flow_credits_are : (t : Tables) (cuts : List (List ℕ)) (counts : Counts) → AreTables t → AreCuts t cuts →
    (place : ℕ) (flow : FlowTable) → slice_get t.flows place ≡ Some flow →
    flow_credits (run_of t cuts counts) (judged_of (output_of t cuts counts)).lines flow.id
    ≡ map (flow_bytes place) (rounds_of t cuts)
flow_credits_are t cuts counts lawful long place flow at =
    let lines : List Row = (judged_of (output_of t cuts counts)).lines in
    ap (map (flow_credit lines flow.id)) (sym (rounds_are_numbered (opening t) cuts))
    ∙ map-map (flow_credit lines flow.id) (λ (s : State). s.round) (rounds_of t cuts)
    ∙ map_same (λ (s : State). flow_credit lines flow.id s.round) (flow_bytes place) (rounds_of t cuts)
    (all_placed (λ s. flow_credit lines flow.id s.round ≡ flow_bytes place s) (rounds_of t cuts)
    (flow_credit_is t cuts counts lawful long place flow at))

-- Regions.

-- all that end in a round of the run
flow_rates : (t : Tables) (cuts : List (List ℕ)) (counts : Counts) → AreTables t → AreCuts t cuts →
    (place : ℕ) (flow : FlowTable) → slice_get t.flows place ≡ Some flow → (last : ℕ) → last < length cuts →
    flow_rate_holds (run_of t cuts counts) (judged_of (output_of t cuts counts)) last flow ≡ true
flow_rates t cuts counts lawful long place flow at last inside =
    let all : List ℕ = flow_credits (run_of t cuts counts) (judged_of (output_of t cuts counts)).lines flow.id in
    let limit : Limit = record { rate = flow.rate; burst = flow.burst; round_ticks = t.round_ticks } in
    let spans : List ℕ = range_with_len 0 (last + 1) in
    let are : all ≡ map (flow_bytes place) (rounds_of t cuts) =
    flow_credits_are t cuts counts lawful long place flow at in
    let many : length all ≡ length cuts =
    ap length are ∙ length-map (rounds_of t cuts) (flow_bytes place) ∙ rounds_long t cuts in
    elim (cases_lt 0 flow.rate) [
      | inl some ↦
          let keeps : KeepsBound limit all =
          subst (KeepsBound limit) (sym are) (flow_keeps t cuts place flow lawful long at some) in
          or_right (flow.rate == 0) (list_all (span_holds t flow all last) spans)
          (all_pass (span_holds t flow all last) spans
          (all_in_range (λ first. span_holds t flow all last first ≡ true) 0 (last + 1)
          (λ first early. le-leb (credited all first last * units_per_byte)
          (flow.burst * units_per_byte + (last - first) * (t.round_ticks * flow.rate))
          (keeps first last (omega (arith, early)) (omega (arith, many, inside))))))
      | inr none ↦ or_left (flow.rate == 0) (list_all (span_holds t flow all last) spans)
          (eq-eqb flow.rate 0 (omega (arith, none)))
    ]

-- In every run the credits of each flow keep its rate.
pub rates_are_lawful : (t : Tables) (cuts : List (List ℕ)) (counts : Counts) → AreTables t → AreCuts t cuts →
    rounds_fit t (length cuts) ≡ true → (p : Place) →
    rates_hold (run_of t cuts counts) (judged_of (output_of t cuts counts)) p ≡ true
rates_are_lawful t cuts counts lawful long fit p =
    let holds : FlowTable → Bool =
    λ flow. flow_rate_holds (run_of t cuts counts) (judged_of (output_of t cuts counts)) p.round flow in
    let each : FlowTable → Bool = λ flow. not (flow.id == p.third) || holds flow in
    elim (cases_lt p.round (length cuts)) [
      | inl inside ↦ or_right (not ((p.channel == 0) && nat_lt p.round (length cuts))) (list_all each t.flows)
          (all_pass each t.flows
          (all_placed (λ flow. each flow ≡ true) t.flows (λ place flow at. or_right (not (flow.id == p.third)) (holds flow)
          (flow_rates t cuts counts lawful long place flow at p.round inside))))
      | inr past ↦ or_left (not ((p.channel == 0) && nat_lt p.round (length cuts))) (list_all each t.flows)
          (grind (arith, nat_tests, past))
    ]
