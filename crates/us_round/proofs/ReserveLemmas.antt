-- What a plan takes of reserves leaves the buckets turn by turn: of each flow once, and of those whose turns don't ask nothing.
use Rattle.std.proofs.Common.{◌≡◌, ◌≢◌, ◌⊎◌, ℕ, suc, ◌+◌, ◌-◌, ◌<◌, ◌≤◌, ◌==◌, eqb, List, [], ◌∷◌, length, map, set, get_or, take, filter, Option, Some, None, slice_get, slice_index, slice_index_or, slice_set, refl, ap, ap₂, sym, subst, ◌∙◌, inl, inr, eq-eqb, ne_eqb, get_or-set_same, get_or-set_other, arith}
use Rattle.std.specs.List.{AllByRecursion, cons_option}
use Rattle.std.proofs.lemmas.Bool.{cases_Bool, cases_eq, ltb-false}
use Rattle.std.proofs.lemmas.List.{get_or-map, length-map, length-set, take_more}
use Rattle.std.proofs.lemmas.List.Sums.{sum_by-cons}
use Rattle.std.proofs.lemmas.Option.{get_or_from_slice_get, slice_get-get_or, slice_get_within}
use Rattle.std.specs.Prelude.{sum}
use Rattle.us_flows.specs.Tables.{Tables}
use Rattle.us_flows.specs.Clusters.{Turn, turns_of}
use Rattle.us_flows.specs.Turns.{turn_at}
use Rattle.us_flows.specs.declared.turns.Turn as places
use Rattle.us_bucket.specs.Levels.{Level, bytes_in, full, reserve_in, spent}
use Rattle.us_split.specs.Asking.{AgreeOn, asking_in, asks, turns_at}
use Rattle.us_split.specs.Plans.{Ledger, Planned, after_turn, flow_bytes, plan_of, reserved_for, shares_of}
use Rattle.us_split.specs.PlanLaws.{AreWithinReserves}
use Rattle.us_split.proofs.AskingLaws.{turns_pass}
use Rattle.us_split.proofs.MinRateLemmas.{reserved_within}
use Rattle.us_split.proofs.PlanLawLemmas.{shares_of-asked}
use Rattle.us_output.proofs.PartLemmas.{all_append}
use Rattle.us_round.specs.Cores.{AreAllowed, AreReserved, flow_at, left_at, left_in}
use Rattle.us_round.specs.Rounds.{unreserved}
use Rattle.us_round.proofs.AskingLemmas.{allows_each, leading, place_is}
use Rattle.us_round.proofs.StateLemmas.{spent-none}

-- Buckets.

-- bytes that are spent leave a reserve too
pub reserve-spent : (bytes : ℕ) (l : Level) → reserve_in (spent bytes l) ≡ reserve_in l - bytes
unfolding reserve_in bytes_in spent
reserve-spent bytes l = elim (cases_Bool (eqb l.rate 0)) [
  | inl none ↦ rw none (omega arith)
  | inr some ↦ rw some (omega arith)
]

-- what reserves no more already stays
pub left-all : (left : ℕ) (l : Level) → reserve_in l ≤ left → left_in left l ≡ l
left-all left l few =
    let none : reserve_in l - left ≡ 0 = omega (arith, few) in
    ap (λ n. spent n l) none ∙ spent-none l

left-twice : (left : ℕ) (l : Level) → left_in left (left_in left l) ≡ left_in left l
left-twice left l = left-all left (left_in left l) (omega (arith, reserve-spent (reserve_in l - left) l))

-- Turns.

pub left-length : (turns : List places.Turn) (left these : List ℕ) (levels : List Level) →
    length (left_at turns left these levels) ≡ length levels
left-length turns left [] levels = refl
left-length turns left (place ∷ these) levels =
    let flow : ℕ = flow_at turns place in
    let next : Level = left_in (slice_index left flow) (slice_index_or levels flow (full 0 0)) in
    left-length turns left these (slice_set levels flow next) ∙ length-set levels flow next

-- the turns at these places are of other flows
abbrev AreOthers : List places.Turn → ℕ → List ℕ → Type 0
AreOthers turns flow these = AllByRecursion (λ place. flow_at turns place ≢ flow) these

-- a bucket has so much left where a turn is of its flow, and stays where none is
left_found : (P : ℕ → Type 0) (turns : List places.Turn) (left these : List ℕ) (levels : List Level) (flow : ℕ) (l : Level) →
    AllByRecursion (λ place. P (flow_at turns place)) these → slice_get levels flow ≡ Some l →
    ((slice_get (left_at turns left these levels) flow ≡ Some (left_in (slice_index left flow) l)) × P flow)
    ⊎ ((slice_get (left_at turns left these levels) flow ≡ Some l) × AreOthers turns flow these)
left_found P turns left [] levels flow l all at = inr (at, tt)
left_found P turns left (place ∷ these) levels flow l all at =
    let own : ℕ = flow_at turns place in
    let was : Level = slice_index_or levels own (full 0 0) in
    let next : List Level = slice_set levels own (left_in (slice_index left own) was) in
    let inside : flow < length levels = slice_get_within levels flow l at in
    let within : flow < length next = omega (arith, inside, length-set levels own (left_in (slice_index left own) was)) in
    let found = slice_get-get_or next flow l within in
    elim (cases_eq own flow) [
      | inl same ↦
          let here : slice_get next flow ≡ Some (left_in (slice_index left flow) l) =
          found ∙ ap Some (ap (λ n. get_or (set levels n (left_in (slice_index left n) (get_or levels n (full 0 0)))) flow l) same
          ∙ get_or-set_same levels flow (left_in (slice_index left flow) (get_or levels flow (full 0 0))) l inside
          ∙ ap (left_in (slice_index left flow)) (get_or_from_slice_get levels flow l (full 0 0) at)) in
          elim (left_found P turns left these next flow (left_in (slice_index left flow) l) all.1 here) [
            | inl done ↦ inl (done.0 ∙ ap Some (left-twice (slice_index left flow) l), subst P same all.0)
            | inr kept ↦ inl (kept.0, subst P same all.0)
          ]
      | inr other ↦
          let here : slice_get next flow ≡ Some l =
          found ∙ ap Some (get_or-set_other levels own flow (left_in (slice_index left own) was) l (λ same. other (sym same))
          ∙ get_or_from_slice_get levels flow l l at) in
          elim (left_found P turns left these next flow l all.1 here) [
            | inl done ↦ inl done
            | inr kept ↦ inr (kept.0, (other, kept.1))
          ]
    ]

-- buckets of which each is spent by what is reserved
unreserved-is : (reserved : ℕ → ℕ) (first : ℕ) (now levels : List Level) → length now ≡ length levels →
    ((place : ℕ) (l : Level) → slice_get levels place ≡ Some l → slice_get now place ≡ Some (spent (reserved (first + place)) l)) →
    now ≡ unreserved reserved first levels
unreserved-is reserved first [] [] long each = refl
unreserved-is reserved first [] (l ∷ levels) long each = absurd (omega (arith, long))
unreserved-is reserved first (n ∷ now) [] long each = absurd (omega (arith, long))
unreserved-is reserved first (n ∷ now) (l ∷ levels) long each =
    let same : first + 0 ≡ first = omega arith in
    let head : Some n ≡ Some (spent (reserved (first + 0)) l) = each 0 l refl in
    let one : n ≡ spent (reserved (first + 0)) l = cc in
    let next : (place : ℕ) (m : Level) → slice_get levels place ≡ Some m →
    slice_get now place ≡ Some (spent (reserved (first + 1 + place)) m) =
    λ place m at.
    let later : first + suc place ≡ first + 1 + place = omega arith in
    each (suc place) m at ∙ ap (λ k. Some (spent (reserved k) m)) later in
    ap₂ (λ b bs. b ∷ bs) (one ∙ ap (λ k. spent (reserved k) l) same)
    (unreserved-is reserved (first + 1) now levels (omega (arith, long)) next)

pub unreserved-length : (reserved : ℕ → ℕ) (place : ℕ) (levels : List Level) → length (unreserved reserved place levels) ≡ length levels
unreserved-length reserved place [] = refl
unreserved-length reserved place (l ∷ levels) = ap (λ n. suc n) (unreserved-length reserved (place + 1) levels)

-- What is noted.

-- what is noted of a flow is right, and leaves other flows right
noted_too : (turns : List places.Turn) (levels : List Level) (reserves : List ℕ) (flow bytes place : ℕ) →
    flow < length reserves → bytes ≡ slice_index (map reserve_in levels) flow →
    (slice_index reserves (flow_at turns place) ≡ slice_index (map reserve_in levels) (flow_at turns place))
    ⊎ (flow_at turns place ≡ flow) →
    slice_index (set reserves flow bytes) (flow_at turns place) ≡ slice_index (map reserve_in levels) (flow_at turns place)
noted_too turns levels reserves flow bytes place inside is either = elim (cases_eq (flow_at turns place) flow) [
  | inl same ↦ rw same (get_or-set_same reserves flow bytes 0 inside ∙ is)
  | inr other ↦ get_or-set_other reserves flow (flow_at turns place) bytes 0 other ∙ as_before either other
]
  where
    as_before : (slice_index reserves (flow_at turns place) ≡ slice_index (map reserve_in levels) (flow_at turns place))
        ⊎ (flow_at turns place ≡ flow) → flow_at turns place ≢ flow →
        slice_index reserves (flow_at turns place) ≡ slice_index (map reserve_in levels) (flow_at turns place)
    as_before (inl was) other = was
    as_before (inr same) other = absurd (other same)

all_noted_too : (turns : List places.Turn) (levels : List Level) (reserves : List ℕ) (flow bytes : ℕ) (these : List ℕ) →
    flow < length reserves → bytes ≡ slice_index (map reserve_in levels) flow → AreReserved turns levels reserves these →
    AreReserved turns levels (set reserves flow bytes) these
all_noted_too turns levels reserves flow bytes [] inside is are = tt
all_noted_too turns levels reserves flow bytes (place ∷ these) inside is are = (
  noted_too turns levels reserves flow bytes place inside is (inl are.0),
  all_noted_too turns levels reserves flow bytes these inside is are.1,
)

-- one more
pub noted_more : (turns : List places.Turn) (levels : List Level) (reserves these : List ℕ) (i place bytes : ℕ) →
    length reserves ≡ length levels → i < length these → place ≡ get_or these i 0 → flow_at turns place < length levels →
    ((d : Level) → bytes ≡ reserve_in (get_or levels (flow_at turns place) d)) →
    AreReserved turns levels reserves (take i these) →
    AreReserved turns levels (set reserves (flow_at turns place) bytes) (take (i + 1) these)
noted_more turns levels reserves these i place bytes long inside is known noted are =
    let flow : ℕ = flow_at turns place in
    let next : List ℕ = set reserves flow bytes in
    let there : flow < length reserves = omega (arith, known, long) in
    let right : bytes ≡ slice_index (map reserve_in levels) flow =
    noted (full 0 0) ∙ sym (get_or-map reserve_in levels flow (full 0 0) 0 known) in
    subst (AreReserved turns levels next) (sym (take_more these i 0 inside))
    (all_append (λ p. slice_index next (flow_at turns p) ≡ slice_index (map reserve_in levels) (flow_at turns p))
    (take i these) (get_or these i 0 ∷ []) (all_noted_too turns levels reserves flow bytes (take i these) there right are) (
      noted_too turns levels reserves flow bytes (get_or these i 0) there right (inr (ap (flow_at turns) (sym is))),
      tt,
    ))

-- Who asks.

-- what holds of the flows of turns at places
pub each_at : (P : ℕ → Type 0) (t : Tables) (turns : List places.Turn) (these : List ℕ) →
    map (turn_at t) turns ≡ map Some (turns_of t) → AllByRecursion (λ place. P (flow_at turns place)) these →
    AllByRecursion (λ turn. P turn.place) (turns_at (turns_of t) these)
each_at P t turns [] same are = tt
each_at P t turns (place ∷ these) same are = by (slice_get (turns_of t) place) refl (each_at P t turns these same are.1)
  where
    by : (found : Option Turn) → slice_get (turns_of t) place ≡ found →
        AllByRecursion (λ turn. P turn.place) (turns_at (turns_of t) these) →
        AllByRecursion (λ turn. P turn.place) (cons_option found (turns_at (turns_of t) these))
    by None at rest = rest
    by (Some turn) at rest =
        let led = leading t turns (turns_of t) place turn same at in
        let own : places.Turn = led.own in
        let flow : flow_at turns place ≡ own.flow =
        ap (λ (u : places.Turn). u.flow) (get_or_from_slice_get turns place own (record { flow = 0; list = 0; cluster = 0 }) led.at) in
        (subst P (flow ∙ sym (place_is t own turn led.leads)) are.0, rest)

-- of the flow at a place no turn asks
abbrev NoneAsks : List ℕ → ℕ → Turn → Type 0
NoneAsks outstanding flow turn = turn.place ≡ flow → slice_index outstanding turn.number ≡ 0

none_asks : (outstanding : List ℕ) (flow : ℕ) (turns : List Turn) →
    AllByRecursion (λ turn. turn.place ≢ flow) (filter (λ turn. asks outstanding turn.number) turns) →
    AllByRecursion (NoneAsks outstanding flow) turns
none_asks outstanding flow [] all = tt
none_asks outstanding flow (turn ∷ turns) all = elim (cases_Bool (asks outstanding turn.number)) [
  | inl t ↦ let both = rw t at all in ((λ same. absurd (both.0 same)), none_asks outstanding flow turns both.1)
  | inr f ↦
      let rest = rw f at all in (
        (λ same. omega (arith, ltb-false 0 (slice_index outstanding turn.number) f)),
        none_asks outstanding flow turns rest,
      )
]

nothing_planned : (outstanding : List ℕ) (ledger : Ledger) (turns : List Turn) (flow : ℕ) →
    AllByRecursion (NoneAsks outstanding flow) turns → flow_bytes (plan_of outstanding ledger turns) flow ≡ 0
unfolding plan_of
nothing_planned outstanding ledger [] flow none = refl
nothing_planned outstanding ledger (turn ∷ turns) flow none =
    let planned : Planned = record { turn = turn; shares = shares_of outstanding ledger turn } in
    let more : List Planned = plan_of outstanding (after_turn ledger planned) turns in
    let rest = nothing_planned outstanding (after_turn ledger planned) turns flow none.1 in
    elim (cases_eq turn.place flow) [
      | inl same ↦
          rw (eq-eqb turn.place flow same) (omega (
            arith,
            sum_by-cons (λ (p : Planned). sum p.shares) planned (filter (λ (p : Planned). p.turn.place == flow) more),
            shares_of-asked outstanding ledger turn,
            none.0 same,
            rest,
          ))
      | inr other ↦ rw (ne_eqb turn.place flow other) rest
    ]

-- so nothing is taken of its reserve
none_reserved : (t : Tables) (turns : List places.Turn) (outstanding : List ℕ) (allowances : List (Option ℕ))
    (reserves idle these : List ℕ) (flow : ℕ) → map (turn_at t) turns ≡ map Some (turns_of t) →
    these ≡ asking_in t outstanding → AreOthers turns flow these →
    reserved_for t outstanding allowances reserves idle flow ≡ 0
unfolding reserved_for
none_reserved t turns outstanding allowances reserves idle these flow same asking others =
    let there : AllByRecursion (λ turn. turn.place ≢ flow) (turns_at (turns_of t) (asking_in t outstanding)) =
    subst (λ ps. AllByRecursion (λ turn. turn.place ≢ flow) (turns_at (turns_of t) ps)) asking
    (each_at (λ f. f ≢ flow) t turns these same others) in
    nothing_planned outstanding _ (turns_of t) flow
    (none_asks outstanding flow (turns_of t) (subst (AllByRecursion (λ turn. turn.place ≢ flow)) (turns_pass (asks outstanding) (turns_of t)) there))

-- The plan.

-- what a plan leaves of noted reserves is what the buckets reserve then
pub left-is : (t : Tables) (turns : List places.Turn) (outstanding : List ℕ) (allowances : List (Option ℕ))
    (levels : List Level) (idle noted left these : List ℕ) → map (turn_at t) turns ≡ map Some (turns_of t) →
    these ≡ asking_in t outstanding → length levels ≡ length allowances → AreReserved turns levels noted these →
    AreWithinReserves t outstanding allowances (map reserve_in levels) idle →
    ((flow : ℕ) → slice_index left flow
    ≡ slice_index noted flow - reserved_for t outstanding allowances (map reserve_in levels) idle flow) →
    left_at turns left these levels
    ≡ unreserved (reserved_for t outstanding allowances (map reserve_in levels) idle) 0 levels
left-is t turns outstanding allowances levels idle noted left these same asking long are within leaves =
    unreserved-is reserved 0 (left_at turns left these levels) levels (left-length turns left these levels) (λ flow l at.
    let number : 0 + flow ≡ flow = omega arith in
    at_flow flow l at ∙ ap (λ k. Some (spent (reserved k) l)) (sym number))
  where
    reserved : ℕ → ℕ
    reserved flow = reserved_for t outstanding allowances (map reserve_in levels) idle flow

    at_flow : (flow : ℕ) (l : Level) → slice_get levels flow ≡ Some l →
        slice_get (left_at turns left these levels) flow ≡ Some (spent (reserved flow) l)
    at_flow flow l at =
        let inside : flow < length levels = slice_get_within levels flow l at in
        let own : slice_index (map reserve_in levels) flow ≡ reserve_in l =
        get_or-map reserve_in levels flow l 0 inside ∙ ap reserve_in (get_or_from_slice_get levels flow l l at) in
        let most : reserved flow ≤ slice_index (map reserve_in levels) flow =
        omega (arith, within flow (omega (arith, inside, long)), reserved_within t.flows (map reserve_in levels) flow) in
        elim (left_found (λ f. slice_index noted f ≡ slice_index (map reserve_in levels) f) turns left these levels flow l are at) [
          | inl done ↦
              let spends : reserve_in l - slice_index left flow ≡ reserved flow =
              omega (arith, leaves flow, done.1, own, most) in
              done.0 ∙ ap (λ n. Some (spent n l)) spends
          | inr kept ↦
              let none : reserved flow ≡ 0 =
              none_reserved t turns outstanding allowances (map reserve_in levels) idle these flow same asking kept.1 in
              kept.0 ∙ ap Some (sym (ap (λ n. spent n l) none ∙ spent-none l))
        ]

-- both lists say the same as the buckets of those who ask
pub agree : (t : Tables) (turns : List places.Turn) (levels reserves : List Level) (allowances : List (Option ℕ))
    (noted these : List ℕ) → map (turn_at t) turns ≡ map Some (turns_of t) → length allowances ≡ length levels →
    AreAllowed turns levels allowances these → AreReserved turns reserves noted these →
    AgreeOn (turns_at (turns_of t) these) allowances (map bytes_in levels) noted (map reserve_in reserves)
agree t turns levels reserves allowances noted these same long allows reserved = record {
  flows = long ∙ sym (length-map levels bytes_in);
  allowed = allows_each t turns levels allowances these same allows;
  reserved = each_at (λ f. slice_index noted f ≡ slice_index (map reserve_in reserves) f) t turns these same reserved;
}
