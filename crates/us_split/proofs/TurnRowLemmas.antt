-- Turns by their seats: each seat is at the channel of its id, so that a turn plans and claims there what it does by ids.
use Rattle.std.proofs.Common.{◌≡◌, ℕ, zero, suc, ◌+◌, ◌-◌, ◌<◌, ◌==◌, ◌≤◌, Bool, true, false, if◌then◌else◌, nat_lt, List, [], ◌∷◌, length, map, set, get_or, Some, None, option_map, slice_get, refl, sym, ap, ap₂, ◌∙◌, subst, inl, inr, eq-eqb, ne_eqb, lt-ltb, arith}
use Rattle.std.specs.Prelude.{sum, position, slice_index, slice_index_or}
use Rattle.std.specs.List.{AllByRecursion, list_any, position_or_len}
use Rattle.std.proofs.lemmas.Bool.{cases_Bool, cases_eq, eqb-true}
use Rattle.std.proofs.lemmas.List.{length-map, get_or-map}
use Rattle.std.proofs.lemmas.List.Quantifiers.{position-Some}
use Rattle.std.proofs.lemmas.Option.{slice_get-get_or, slice_get_within}
use Rattle.us_flows.specs.declared.channels.Channel.{Channel}
use Rattle.us_flows.specs.Tables.{Tables, FlowTable, has_channel, header_bytes}
use Rattle.us_flows.specs.Clusters.{Turn, IsTurnIn, words_of}
use Rattle.us_flows.specs.Lawful.{AreApart, AreTables, IsFlow}
use Rattle.us_split.specs.Divisions.{divided}
use Rattle.us_split.specs.Plans.{Planned, at_most, budget_of, shares_of, weight, weights}
use Rattle.us_split.specs.PartialPlans.{Asker, ChannelPlan, IsPlaceOf, PartialPlan, asker_of, budget_in, claimed_at, claimed_from, planned_further, planned_in, with_claim, with_share}
use Rattle.us_split.specs.TurnRows.{IsRowWithin, TurnRow, changed, place_of, place_or_first, put_from, row_of, rows_from, seats_from, shares_in, weight_at, with_row}
use Rattle.us_split.proofs.ByPlaceLemmas.{changed_here, nothing_put}
use Rattle.us_split.proofs.ChannelPlanLemmas.{budget_at, claimed_end, claimed_more, claimed_turn, ids, no_share_claimed, one_claimed}
use Rattle.us_split.proofs.ClaimLemmas.{flow_of}

-- Where a channel stands.

found_within : (p : Channel → Bool) (xs : List Channel) → list_any p xs ≡ true → position_or_len p xs < length xs
found_within p [] any = absurd cc
found_within p (x ∷ xs) any = elim (cases_Bool (p x)) [
  | inl t ↦ rw t (omega arith)
  | inr f ↦
      let later : position_or_len p xs < length xs = found_within p xs (rw f at any) in
      rw f (omega (arith, later))
]

-- what stands at a place is the channel with this id
pub record StandsAt (channels : List Channel) (id place : ℕ) : Type 0 where
  pub within : place < length channels
  pub own : (d : Channel) → (get_or channels place d).id ≡ id

pub stands : (channels : List Channel) (id : ℕ) → has_channel channels id ≡ true → StandsAt channels id (place_of channels id)
unfolding place_of
stands channels id known =
    let p : Channel → Bool = λ c. c.id == id in
    let first : ℕ = position_or_len p channels in
    let within : first < length channels = found_within p channels known in
    let test : nat_lt first (length channels) ≡ true = lt-ltb first (length channels) within in
    let at : position p channels ≡ Some first = rw test refl in
    let here : place_or_first (position p channels) ≡ first = ap place_or_first at in
    subst (StandsAt channels id) (sym here) (record {
      within = within;
      own = λ d. eqb-true (get_or channels first d).id id (position-Some p channels first d at).1;
    })

-- and so it is among the plans of channels
pub plan_stands : (xs : List ChannelPlan) (channels : List Channel) (id place : ℕ) → map (λ c. c.channel) xs ≡ channels →
    StandsAt channels id place → IsPlaceOf xs id place
plan_stands xs channels id place same at =
    let there : StandsAt (map (λ c. c.channel) xs) id place = subst (λ cs. StandsAt cs id place) (sym same) at in
    let within : place < length xs = omega (arith, there.within, length-map xs (λ (c : ChannelPlan). c.channel)) in
    record {
      within = within;
      own = λ c. ap (λ (x : Channel). x.id) (sym (get_or-map (λ (x : ChannelPlan). x.channel) xs place c c.channel within)) ∙ there.own c.channel;
    }

ids_are : (xs : List ChannelPlan) → map (λ c. c.id) (map (λ c. c.channel) xs) ≡ ids xs
ids_are [] = refl
ids_are (x ∷ xs) = ap (λ ns. x.channel.id ∷ ns) (ids_are xs)

pub ids_apart : (xs : List ChannelPlan) (channels : List Channel) → map (λ c. c.channel) xs ≡ channels →
    AreApart (map (λ c. c.id) channels) → AreApart (ids xs)
ids_apart xs channels same apart =
    subst AreApart (ids_are xs) (subst (λ (cs : List Channel). AreApart (map (λ c. c.id) cs)) (sym same) apart)

-- A share at a seat is a share by its id.

one_changed : (asker : Asker) (position id sid share place : ℕ) (xs : List ChannelPlan) → AreApart (ids xs) →
    IsPlaceOf xs id place →
    changed (with_share asker position sid share) xs place ≡ map (claimed_at asker position id sid share) xs
one_changed asker position id sid share place [] apart is = refl
one_changed asker position id sid share place (x ∷ xs) apart is = elim (cases_eq share 0) [
  | inl none ↦
      sym (nothing_put asker position sid share place (x ∷ xs) none) ∙
      no_share_claimed asker position id sid share (x ∷ xs) none
  | inr some ↦
      let claim : with_share asker position sid share (get_or (x ∷ xs) place x) ≡
      with_claim asker position sid share (get_or (x ∷ xs) place x) = rw (ne_eqb share 0 some) refl in
      sym (changed_here (with_share asker position sid share) (x ∷ xs) place x is.within) ∙
      ap (set (x ∷ xs) place) claim ∙
      one_claimed asker position id sid share place (x ∷ xs) x apart is some
]

claimed_channel : (asker : Asker) (position id sid share : ℕ) (c : ChannelPlan) →
    (claimed_at asker position id sid share c).channel ≡ c.channel
claimed_channel asker position id sid share c = elim (cases_eq c.channel.id id) [
  | inl own ↦ elim (cases_eq share 0) [
    | inl none ↦ rw (eq-eqb c.channel.id id own, eq-eqb share 0 none) refl
    | inr some ↦ rw (eq-eqb c.channel.id id own, ne_eqb share 0 some) refl
  ]
  | inr other ↦ rw (ne_eqb c.channel.id id other) refl
]

claimed_channels : (asker : Asker) (position id sid share : ℕ) (xs : List ChannelPlan) →
    map (λ c. c.channel) (map (claimed_at asker position id sid share) xs) ≡ map (λ c. c.channel) xs
claimed_channels asker position id sid share [] = refl
claimed_channels asker position id sid share (x ∷ xs) =
    ap₂ (λ c cs. c ∷ cs) (claimed_channel asker position id sid share x) (claimed_channels asker position id sid share xs)

pub put_claimed : (channels : List Channel) (asker : Asker) (position : ℕ) (more sids shares : List ℕ) (xs : List ChannelPlan) →
    map (λ c. c.channel) xs ≡ channels → AreApart (map (λ c. c.id) channels) →
    AllByRecursion (λ id. has_channel channels id ≡ true) more →
    put_from asker position (seats_from channels position more sids) shares xs ≡
    map (claimed_from asker position more sids shares) xs
put_claimed channels asker position [] sids shares xs same apart known = sym (claimed_end asker position sids shares xs)
put_claimed channels asker position (id ∷ more) sids shares xs same apart known =
    let sid : ℕ = slice_index sids position in
    let share : ℕ = slice_index shares position in
    let next : List ChannelPlan = map (claimed_at asker position id sid share) xs in
    let here : changed (with_share asker position sid share) xs (place_of channels id) ≡ next =
    one_changed asker position id sid share (place_of channels id) xs (ids_apart xs channels same apart)
    (plan_stands xs channels id (place_of channels id) same (stands channels id known.0)) in
    ap (put_from asker (position + 1) (seats_from channels (position + 1) more sids) shares) here ∙
    put_claimed channels asker (position + 1) more sids shares next
    (claimed_channels asker position id sid share xs ∙ same) apart known.1 ∙
    claimed_more asker position id more sids shares xs

-- And so are weights.

weight_there : (header id place : ℕ) (xs : List ChannelPlan) → AreApart (ids xs) → IsPlaceOf xs id place →
    weight_at header xs place ≡ weight header (budget_of (map budget_in xs) id)
weight_there header id place [] apart is = absurd (omega (arith, is.within))
weight_there header id place (x ∷ xs) apart is =
    ap (λ found. weight header (option_map budget_in found)) (slice_get-get_or (x ∷ xs) place x is.within) ∙
    ap (weight header) (sym (budget_at (x ∷ xs) id place x apart is))

pub weights_there : (channels : List Channel) (header position : ℕ) (more sids : List ℕ) (xs : List ChannelPlan) →
    map (λ c. c.channel) xs ≡ channels → AreApart (map (λ c. c.id) channels) →
    AllByRecursion (λ id. has_channel channels id ≡ true) more →
    map (λ seat. weight_at header xs seat.place) (seats_from channels position more sids) ≡
    map (λ id. weight header (budget_of (map budget_in xs) id)) more
weights_there channels header position [] sids xs same apart known = refl
weights_there channels header position (id ∷ more) sids xs same apart known =
    ap₂ (λ w ws. w ∷ ws)
    (weight_there header id (place_of channels id) xs (ids_apart xs channels same apart)
    (plan_stands xs channels id (place_of channels id) same (stands channels id known.0)))
    (weights_there channels header (position + 1) more sids xs same apart known.1)

-- What is planned by a turn's row is what is planned by the turn.
pub row_planned : (t : Tables) (outstanding : List ℕ) (place : ℕ) (turn : Turn) (partial : PartialPlan) → AreTables t →
    IsTurnIn t turn → map (λ c. c.channel) partial.channels ≡ t.channels →
    with_row (row_of t.channels place turn) (slice_index outstanding turn.number) partial ≡
    planned_further place (planned_in outstanding partial turn) partial
unfolding with_row planned_further shares_of weights
row_planned t outstanding place turn partial lawful is same =
    let f : FlowTable = turn.cluster.flow in
    let flow : IsFlow t f = flow_of t turn lawful is in
    let planned : Planned = planned_in outstanding partial turn in
    let bytes : ℕ = at_most (slice_index_or partial.allowances turn.place None) (slice_index outstanding turn.number) in
    let row : TurnRow = row_of t.channels place turn in
    let asker : Asker = asker_of place turn in
    let shares : shares_in row (slice_index outstanding turn.number) partial ≡ planned.shares =
    ap (divided bytes)
    (weights_there t.channels (header_bytes f) 0 f.channels turn.cluster.sids partial.channels same lawful.channels_apart flow.channels) in
    ap₂ (λ cs limits. let p : PartialPlan = record { channels = cs; allowances = limits } in p)
    (ap (λ ss. put_from asker 0 row.seats ss partial.channels) shares ∙
    put_claimed t.channels asker 0 f.channels turn.cluster.sids planned.shares partial.channels same lawful.channels_apart flow.channels ∙
    claimed_turn place planned partial.channels flow.apart)
    (ap (λ ss. set partial.allowances turn.place
    (option_map (λ most. most - sum ss) (slice_index_or partial.allowances turn.place None))) shares)

-- The rows of all turns.

-- at each place stands the turn of that place
pub row_there : (channels : List Channel) (start k : ℕ) (turns : List Turn) →
    slice_get (rows_from channels start turns) k ≡ option_map (row_of channels (start + k)) (slice_get turns k)
row_there channels start k [] = refl
row_there channels start zero (turn ∷ turns) =
    let same : start ≡ start + 0 = omega arith in
    ap (λ n. Some (row_of channels n turn)) same
row_there channels start (suc k) (turn ∷ turns) =
    let next : start + 1 + k ≡ start + suc k = omega arith in
    row_there channels (start + 1) k turns ∙ ap (λ n. option_map (row_of channels n) (slice_get turns k)) next

pub rows_length : (channels : List Channel) (start : ℕ) (turns : List Turn) → length (rows_from channels start turns) ≡ length turns
rows_length channels start [] = refl
rows_length channels start (turn ∷ turns) = ap suc (rows_length channels (start + 1) turns)

seats_inside : (channels : List Channel) (position : ℕ) (more sids : List ℕ) →
    AllByRecursion (λ id. has_channel channels id ≡ true) more →
    AllByRecursion (λ seat. seat.place < length channels) (seats_from channels position more sids)
seats_inside channels position [] sids known = tt
seats_inside channels position (id ∷ more) sids known =
    ((stands channels id known.0).within, seats_inside channels (position + 1) more sids known.1)

few_bytes : (b : Bool) → (if b then 8 else 0) ≤ 8
few_bytes true = omega arith
few_bytes false = omega arith

-- they lead to flows and channels of the tables,
pub rows_inside : (t : Tables) (start : ℕ) (turns : List Turn) → AreTables t → AllByRecursion (IsTurnIn t) turns →
    AllByRecursion (IsRowWithin (length t.flows) (length t.channels)) (rows_from t.channels start turns)
rows_inside t start [] lawful all = tt
rows_inside t start (turn ∷ turns) lawful all = (
  record {
    flow = slice_get_within t.flows turn.place turn.cluster.flow all.0.flow;
    inside = seats_inside t.channels 0 turn.cluster.flow.channels turn.cluster.sids
        (flow_of t turn lawful all.0).channels;
    header = few_bytes turn.cluster.flow.headers;
  },
  rows_inside t (start + 1) turns lawful all.1,
)

-- and to words
pub rows_known : (t : Tables) (start : ℕ) (turns : List Turn) → AllByRecursion (IsTurnIn t) turns →
    AllByRecursion (λ row. row.asker.claimant.cluster < length (words_of t)) (rows_from t.channels start turns)
rows_known t start [] all = tt
rows_known t start (turn ∷ turns) all = (all.0.number, rows_known t (start + 1) turns all.1)
