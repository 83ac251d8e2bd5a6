-- The bucket of a flow through the rounds of a run: it has the bytes of each round's credits, and is left with what these
-- credits leave.
use Rattle.std.proofs.Common.{◌≡◌, ℕ, zero, suc, ◌+◌, ◌<◌, ◌≤◌, List, [], ◌∷◌, length, map, Option, Some, None, refl, sym, ap, ap₂, subst, ◌∙◌, ne_eqb, arith}
use Rattle.std.specs.Prelude.{slice_get, option_map, IfSome}
use Rattle.std.specs.List.{AllByRecursion}
use Rattle.std.proofs.lemmas.Option.{slice_get-map}
use Rattle.us_flows.specs.Tables.{Tables, FlowTable}
use Rattle.us_flows.specs.Lawful.{AreTables}
use Rattle.us_bucket.specs.Levels.{Level, full, refilled, spent, bytes_in, Has}
use Rattle.us_bucket.specs.Allowances.{Limit, KeepsBound}
use Rattle.us_bucket.specs.Spans.{credits_from, credits_of}
use Rattle.us_bucket.specs.Laws.{level_after, HasEach, first_level}
use Rattle.us_bucket.specs.declared.events.Event.{Event}
use Rattle.us_bucket.specs.declared.events.Event.TheVariants.{NextRound, Credit}
use Rattle.us_bucket.proofs.AllowanceLemmas.{kept}
use Rattle.us_split.specs.PlanLaws.{Within}
use Rattle.us_channel.specs.Placements.{PlacedClaim, credits}
use Rattle.us_round.specs.Rounds.{State, opening, brought, begun, builds_of, all_grants, is_of_flow, spent_of, round_from, round_of, final}
use Rattle.us_round.specs.States.{AreSound}
use Rattle.us_round.specs.ScheduleLaws.{begun_rounds, AreCuts}
use Rattle.us_output.proofs.PartLemmas.{all_weaker}
use Rattle.us_lawful.specs.Finals.{level_left}
use Rattle.us_lawful.proofs.RoundLemmas.{IsRoundOf, rounds_are, rounds_of}

-- Credits as events.

-- those of rounds behind another one, and those of rounds from the first on
abbrev pub later_events : List ℕ → List Event
later_events [] = []
later_events (bytes ∷ more) = NextRound ∷ Credit bytes ∷ later_events more

abbrev pub events_of : List ℕ → List Event
events_of [] = []
events_of (bytes ∷ more) = Credit bytes ∷ later_events more

-- the credits of both are these
credits_later : (first : ℕ) (more : List ℕ) → credits_from first (later_events more) ≡ first ∷ more
credits_later first [] = refl
credits_later first (bytes ∷ more) =
    let same : 0 + bytes ≡ bytes = omega arith in
    ap (λ rest. first ∷ rest) (credits_later (0 + bytes) more ∙ ap (λ n. n ∷ more) same)

credits_told : (bytes : ℕ) (more : List ℕ) → credits_of (events_of (bytes ∷ more)) ≡ bytes ∷ more
credits_told bytes more =
    let same : 0 + bytes ≡ bytes = omega arith in
    credits_later (0 + bytes) more ∙ ap (λ n. n ∷ more) same

-- a bucket that has each of them keeps the bound
pub has_keeps : (limit : Limit) (all : List ℕ) → 0 < limit.rate →
    HasEach limit.round_ticks (events_of all) (first_level limit) → KeepsBound limit all
has_keeps limit [] some has = λ i j order inside. absurd (omega (arith, inside))
has_keeps limit (bytes ∷ more) some has =
    subst (KeepsBound limit) (credits_told bytes more) (kept limit (events_of (bytes ∷ more)) some has)

-- and is left with what they leave
left_later : (ticks bytes : ℕ) (more : List ℕ) (l : Level) →
    level_left ticks (bytes ∷ more) l ≡ level_after ticks (later_events more) (spent bytes l)
unfolding level_left
left_later ticks bytes [] l = refl
left_later ticks bytes (next ∷ more) l = left_later ticks next more (refilled ticks (spent bytes l))

-- One round.

-- the bytes that a round credits to the flow at a place
abbrev pub flow_bytes : ℕ → State → ℕ
flow_bytes place s = credits (is_of_flow place) (all_grants (builds_of s))

-- what all credits of a round leave of one bucket
spent_at : (grants : List PlacedClaim) (from : ℕ) (buckets : List Level) (n : ℕ) (l : Level) →
    slice_get buckets n ≡ Some l →
    slice_get (spent_of grants from buckets) n ≡ Some (spent (credits (is_of_flow (from + n)) grants) l)
spent_at grants from [] n l at = absurd (cc at)
spent_at grants from (bucket ∷ more) zero l at =
    let same : bucket ≡ l = cc in
    let own : from ≡ from + 0 = omega arith in
    ap₂ (λ k b. Some (spent (credits (is_of_flow k) grants) b)) own same
spent_at grants from (bucket ∷ more) (suc n) l at =
    let own : from + 1 + n ≡ from + suc n = omega arith in
    spent_at grants (from + 1) more n l at ∙ ap (λ k. Some (spent (credits (is_of_flow k) grants) l)) own

-- a round takes its credits from the bucket
after_round : (s : State) (cut : List ℕ) (place : ℕ) (l : Level) → slice_get (brought s s.buckets) place ≡ Some l →
    slice_get (round_of s cut).state.buckets place ≡ Some (spent (flow_bytes place (begun s cut)) l)
unfolding round_of round_from
after_round s cut place l at =
    let grants : List PlacedClaim = all_grants (builds_of (begun s cut)) in
    let own : 0 + place ≡ place = omega arith in
    spent_at grants 0 (brought s s.buckets) place l at ∙ ap (λ k. Some (spent (credits (is_of_flow k) grants) l)) own

-- and before them, in all rounds but the first, it grows
grown_later : (s : State) (place : ℕ) (l : Level) → 1 ≤ s.round → slice_get s.buckets place ≡ Some l →
    slice_get (brought s s.buckets) place ≡ Some (refilled s.tables.round_ticks l)
grown_later s place l later at =
    rw (ne_eqb s.round 0 (omega (arith, later)))
    (slice_get-map (refilled s.tables.round_ticks) s.buckets place ∙ ap (option_map (refilled s.tables.round_ticks)) at)

-- what is within has its bytes
within_has : (allowed : Option ℕ) (bytes : ℕ) → Within allowed bytes → IfSome allowed (λ most. bytes ≤ most)
within_has None bytes within = tt
within_has (Some most) bytes within = within

-- so has the bucket of a flow in a round that is sound
has_credits : (s : State) (place : ℕ) (l : Level) → AreSound s (builds_of s) → slice_get s.buckets place ≡ Some l →
    Has l (flow_bytes place s)
has_credits s place l sound at = within_has (bytes_in l) (flow_bytes place s) (sound.covers.allowed place l at)

-- All rounds.

-- rounds that are sound
abbrev AreAllSound : List State → Type 0
AreAllSound rounds = AllByRecursion (λ s. AreSound s (builds_of s)) rounds

-- from a later round on, the bucket has the bytes of each one's credits,
later_has : (s : State) (cuts : List (List ℕ)) (place : ℕ) (l : Level) → 1 ≤ s.round →
    slice_get s.buckets place ≡ Some l → AreAllSound (begun_rounds s cuts) →
    HasEach s.tables.round_ticks (later_events (map (flow_bytes place) (begun_rounds s cuts))) l
unfolding begun_rounds round_of round_from
later_has s [] place l later at sound = tt
later_has s (cut ∷ cuts) place l later at sound =
    let now : Level = refilled s.tables.round_ticks l in
    let here : slice_get (brought s s.buckets) place ≡ Some now = grown_later s place l later at in (
      has_credits (begun s cut) place now sound.0 here,
      later_has (round_of s cut).state cuts place (spent (flow_bytes place (begun s cut)) now) (omega arith)
          (after_round s cut place now here) sound.1,
    )

-- and is left with what they leave
later_leaves : (s : State) (cuts : List (List ℕ)) (place : ℕ) (l : Level) → 1 ≤ s.round →
    slice_get s.buckets place ≡ Some l →
    slice_get (final s cuts).buckets place
    ≡ Some (level_after s.tables.round_ticks (later_events (map (flow_bytes place) (begun_rounds s cuts))) l)
unfolding begun_rounds final round_of round_from
later_leaves s [] place l later at = at
later_leaves s (cut ∷ cuts) place l later at =
    let now : Level = refilled s.tables.round_ticks l in
    later_leaves (round_of s cut).state cuts place (spent (flow_bytes place (begun s cut)) now) (omega arith)
    (after_round s cut place now (grown_later s place l later at))

-- before round 0 it is full
opening_bucket : (t : Tables) (place : ℕ) (flow : FlowTable) → slice_get t.flows place ≡ Some flow →
    slice_get (opening t).buckets place ≡ Some (full flow.rate flow.burst)
opening_bucket t place flow at =
    slice_get-map (λ (flow : FlowTable). full flow.rate flow.burst) t.flows place
    ∙ ap (option_map (λ (flow : FlowTable). full flow.rate flow.burst)) at

-- from there on it has the bytes of each round's credits
first_has : (t : Tables) (cuts : List (List ℕ)) (place : ℕ) (flow : FlowTable) → slice_get t.flows place ≡ Some flow →
    AreAllSound (rounds_of t cuts) →
    HasEach t.round_ticks (events_of (map (flow_bytes place) (rounds_of t cuts))) (full flow.rate flow.burst)
unfolding begun_rounds round_of round_from
first_has t [] place flow at sound = tt
first_has t (cut ∷ cuts) place flow at sound =
    let first : Level = full flow.rate flow.burst in
    let here : slice_get (opening t).buckets place ≡ Some first = opening_bucket t place flow at in (
      has_credits (begun (opening t) cut) place first sound.0 here,
      later_has (round_of (opening t) cut).state cuts place (spent (flow_bytes place (begun (opening t) cut)) first)
          (omega arith) (after_round (opening t) cut place first here) sound.1,
    )

-- The credits of a flow keep its bound.
pub flow_keeps : (t : Tables) (cuts : List (List ℕ)) (place : ℕ) (flow : FlowTable) → AreTables t → AreCuts t cuts →
    slice_get t.flows place ≡ Some flow → 0 < flow.rate →
    KeepsBound (record { rate = flow.rate; burst = flow.burst; round_ticks = t.round_ticks })
    (map (flow_bytes place) (rounds_of t cuts))
flow_keeps t cuts place flow lawful long at some =
    has_keeps (record { rate = flow.rate; burst = flow.burst; round_ticks = t.round_ticks })
    (map (flow_bytes place) (rounds_of t cuts)) some
    (first_has t cuts place flow at
    (all_weaker (IsRoundOf t (length cuts)) (λ s. AreSound s (builds_of s)) (λ s is. is.sound) (rounds_of t cuts)
    (rounds_are t cuts lawful long)))

-- Its bucket is left with what they leave.
pub flow_left : (t : Tables) (cuts : List (List ℕ)) (place : ℕ) (flow : FlowTable) → slice_get t.flows place ≡ Some flow →
    slice_get (final (opening t) cuts).buckets place
    ≡ Some (level_left t.round_ticks (map (flow_bytes place) (rounds_of t cuts)) (full flow.rate flow.burst))
unfolding begun_rounds final level_left round_of round_from
flow_left t [] place flow at = opening_bucket t place flow at
flow_left t (cut ∷ cuts) place flow at =
    let first : Level = full flow.rate flow.burst in
    let bytes : ℕ = flow_bytes place (begun (opening t) cut) in
    let next : State = (round_of (opening t) cut).state in
    later_leaves next cuts place (spent bytes first) (omega arith)
    (after_round (opening t) cut place first (opening_bucket t place flow at))
    ∙ ap (λ l. Some l) (sym (left_later t.round_ticks bytes (map (flow_bytes place) (begun_rounds next cuts)) first))
