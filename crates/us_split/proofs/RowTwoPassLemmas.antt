-- Plans of two passes by rows: what both passes come to, for those who ask.
use Rattle.std.proofs.Common.{◌≡◌, ◌≢◌, ℕ, zero, suc, ◌+◌, ◌-◌, ◌*◌, ◌==◌, ◌<◌, ◌≤◌, ◌||◌, nat_lt, min, Bool, true, false, if◌then◌else◌, List, [], ◌∷◌, ◌++◌, length, map, set, filter, Option, Some, None, option_map, slice_get, refl, sym, ap, ap₂, ◌∙◌, subst, inl, inr, eq-eqb, ne_eqb, append_assoc, append-nil, get_or-set_same, get_or-set_other, arith}
use Rattle.std.specs.Prelude.{sum, position, slice_index, slice_index_or}
use Rattle.std.specs.List.{AllByRecursion, cons_option}
use Rattle.std.proofs.lemmas.Bool.{cases_Bool, cases_eq, cases_lt, ltb-false}
use Rattle.std.proofs.lemmas.List.{get_or_past, length-map, length-set}
use Rattle.std.proofs.lemmas.List.Sums.{sum_by-cons}
use Rattle.std.proofs.lemmas.Option.{slice_get_within}
use Rattle.us_slots.specs.Times.{minislot_ticks}
use Rattle.us_flows.specs.declared.channels.Channel.{Channel}
use Rattle.us_flows.specs.Tables.{Tables, FlowTable, has_channel, header_bytes}
use Rattle.us_flows.specs.Clusters.{Turn, IsTurnIn, turns_of}
use Rattle.us_flows.specs.Lawful.{AreApart, AreTables, IsFlow}
use Rattle.us_flows.proofs.TurnLaws.{turns_of-turns}
use Rattle.us_split.specs.declared.turn_rows.Seat.{Seat}
use Rattle.us_split.specs.Divisions.{divided}
use Rattle.us_slots.specs.Lists.{added}
use Rattle.us_split.specs.Plans.{IsIdle, Budget, Ledger, Planned, at_most, weights, shares_of, share_at, share_cost, cost_on, lowered, allowed_less, after_turn, after_plan, plan_of, plan_for, ledger_of, min_rate_reserves, first_limits, first_of, given_back, minus, more_shares, with_more, after_both, second_of, two_passes, flow_bytes, reserved_for}
use Rattle.us_split.specs.Claims.{Claim, all_claims}
use Rattle.us_split.specs.Asking.{AgreeOn, asking_in, asks, claims_at, plan_of_askers, turns_at}
use Rattle.us_split.specs.PartialPlans.{Asker, ChannelPlan, IsPlaceOf, PartialPlan, asker_of, budget_in, idle_plan, ledger_in, most_slots, with_turn}
use Rattle.us_split.specs.TurnRows.{FirstPass, TurnRow, at_seats, changed, cleared, first_in, first_pass, is_reserved, last_pass, more_in, no_firsts, partial_of, pass_of, place_of, put_from, reserve_for, returned_at, row_of, rows_from, seats_from, some_reserved, taken_at, weight_at, with_first_if, with_first_row, with_firsts, with_second_if, with_second_row, with_seconds}
use Rattle.us_split.proofs.AskingLaws.{AreIdle, asked_in, askers_claim_all, first_idle, first_same, limits_agree, turns_pass}
use Rattle.us_split.proofs.ChannelPlanLemmas.{absent, claimed_turn, few_slots, ids, later, not_first}
use Rattle.us_split.proofs.ChannelShareLemmas.{first_place, later_place}
use Rattle.us_split.proofs.ClaimLemmas.{all_at, flow_of}
use Rattle.us_split.proofs.MinRateLemmas.{flow_reserve, rates_agree, reserved_less}
use Rattle.us_split.proofs.OnePassLaws.{IsNone, NothingFirst, limit-at, none_in_first, nothing_first, one_pass}
use Rattle.us_split.proofs.PartialPlanLemmas.{after_with, idle_budgets}
use Rattle.us_split.proofs.PlanLawLemmas.{idle-budgets}
use Rattle.us_split.proofs.RowPlanLemmas.{askers_inside, channels_of_turn, claims_of_more, claims_of_rows, cleared_channels, cleared_is, idle_claims_by, some_at}
use Rattle.us_split.proofs.SecondPassLemmas.{IsHeld, held-after, held-given}
use Rattle.us_split.proofs.ShareLemmas.{IsBudget}
use Rattle.us_split.proofs.TurnRowLemmas.{ids_apart, plan_stands, put_claimed, row_there, stands, weights_there}
use Rattle.us_split.proofs.TwoPassLaws.{held_after, idle_ids}

-- Minislots at seats.

-- where a channel stands among these ids
abbrev position_of : List ℕ → ChannelPlan → Option ℕ
position_of more c = position (λ id. id == c.channel.id) more

-- only the minislots of a channel change
abbrev slotted : (ℕ → ChannelPlan → ℕ) → ℕ → ChannelPlan → ChannelPlan
slotted slots position c = record { channel = c.channel; slots = slots position c; claims = c.claims }

module _ (slots : ℕ → ChannelPlan → ℕ) where
  abbrev at_id : ℕ → ℕ → ChannelPlan → ChannelPlan
  at_id position id c = if c.channel.id == id then slotted slots position c else c

  abbrev slotted_there : ℕ → Option ℕ → ChannelPlan → ChannelPlan
  slotted_there position None c = c
  slotted_there position (Some k) c = slotted slots (position + k) c

  others_kept : (position id : ℕ) (xs : List ChannelPlan) → AllByRecursion (λ y. id ≢ y) (ids xs) →
      xs ≡ map (at_id position id) xs
  others_kept position id [] all = refl
  others_kept position id (x ∷ xs) all =
      rw (ne_eqb x.channel.id id (λ same. all.0 (sym same))) (ap (λ cs. x ∷ cs) (others_kept position id xs all.1))

  one_slotted : (position id place : ℕ) (xs : List ChannelPlan) → AreApart (ids xs) → IsPlaceOf xs id place →
      changed (slotted slots position) xs place ≡ map (at_id position id) xs
  one_slotted position id place [] apart is = refl
  one_slotted position id zero (x ∷ xs) apart is =
      let own : x.channel.id ≡ id = is.own x in
      let others : AllByRecursion (λ y. id ≢ y) (ids xs) = subst (λ n. AllByRecursion (λ y. n ≢ y) (ids xs)) own apart.0 in
      rw (eq-eqb x.channel.id id own) (ap (λ cs. slotted slots position x ∷ cs) (others_kept position id xs others))
  one_slotted position id (suc place) (x ∷ xs) apart is =
      rw (ne_eqb x.channel.id id (not_first x xs id place apart is))
      (ap (λ cs. x ∷ cs) (one_slotted position id place xs apart.1 (later x xs id place is)))

  same_channels : (position id : ℕ) (xs : List ChannelPlan) →
      map (λ c. c.channel) (map (at_id position id) xs) ≡ map (λ c. c.channel) xs
  same_channels position id [] = refl
  same_channels position id (x ∷ xs) = elim (cases_Bool (x.channel.id == id)) [
    | inl t ↦ rw t (ap (λ cs. x.channel ∷ cs) (same_channels position id xs))
    | inr f ↦ rw f (ap (λ cs. x.channel ∷ cs) (same_channels position id xs))
  ]

  shifted : (position : ℕ) (found : Option ℕ) (c : ChannelPlan) →
      slotted_there (position + 1) found c ≡ slotted_there position (option_map suc found) c
  shifted position None c = refl
  shifted position (Some k) c =
      let next : position + 1 + k ≡ position + suc k = omega arith in ap (λ n. slotted slots n c) next

  both_places : (position id : ℕ) (more : List ℕ) (c : ChannelPlan) → AreApart (id ∷ more) →
      slotted_there (position + 1) (position_of more (at_id position id c)) (at_id position id c) ≡
      slotted_there position (position_of (id ∷ more) c) c
  both_places position id more c apart = elim (cases_eq c.channel.id id) [
    | inl same ↦
        let none : position_of more c ≡ None =
        absent c.channel.id more (subst (λ n. AllByRecursion (λ y. n ≢ y) more) (sym same) apart.0) in
        let start : position ≡ position + 0 = omega arith in
        rw (eq-eqb c.channel.id id same)
        (ap (λ found. slotted_there (position + 1) found (slotted slots position c)) none ∙
        ap (λ n. slotted slots n c) start ∙
        ap (λ found. slotted_there position found c)
        (sym (first_place (λ i. i == c.channel.id) id more (eq-eqb id c.channel.id (sym same)))))
    | inr other ↦
        rw (ne_eqb c.channel.id id other)
        (shifted position (position_of more c) c ∙
        ap (λ found. slotted_there position found c)
        (sym (later_place (λ i. i == c.channel.id) id more (ne_eqb id c.channel.id (λ same. other (sym same))))))
  ]

  all_places : (position id : ℕ) (more : List ℕ) (xs : List ChannelPlan) → AreApart (id ∷ more) →
      map (λ c. slotted_there (position + 1) (position_of more c) c) (map (at_id position id) xs) ≡
      map (λ c. slotted_there position (position_of (id ∷ more) c) c) xs
  all_places position id more [] apart = refl
  all_places position id more (x ∷ xs) apart =
      ap₂ (λ c cs. c ∷ cs) (both_places position id more x apart) (all_places position id more xs apart)

  no_places : (position : ℕ) (xs : List ChannelPlan) → xs ≡ map (λ c. slotted_there position (position_of [] c) c) xs
  no_places position [] = refl
  no_places position (x ∷ xs) = ap (λ cs. x ∷ cs) (no_places position xs)

  -- what changes at seats changes on the channels with their ids
  pub slots_at : (channels : List Channel) (position : ℕ) (more sids : List ℕ) (xs : List ChannelPlan) →
      map (λ c. c.channel) xs ≡ channels → AreApart (map (λ c. c.id) channels) → AreApart more →
      AllByRecursion (λ id. has_channel channels id ≡ true) more →
      at_seats (slotted slots) position (seats_from channels position more sids) xs ≡
      map (λ c. slotted_there position (position_of more c) c) xs
  slots_at channels position [] sids xs same apart more_apart known = no_places position xs
  slots_at channels position (id ∷ more) sids xs same apart more_apart known =
      ap (at_seats (slotted slots) (position + 1) (seats_from channels (position + 1) more sids))
      (one_slotted position id (place_of channels id) xs (ids_apart xs channels same apart)
      (plan_stands xs channels id (place_of channels id) same (stands channels id known.0))) ∙
      slots_at channels (position + 1) more sids (map (at_id position id) xs) (same_channels position id xs ∙ same) apart
      more_apart.1 known.1 ∙
      all_places position id more xs more_apart

-- A turn.

-- what the shares of a planned turn cost is taken off, or given back
abbrev taken_by : Planned → ChannelPlan → ChannelPlan
taken_by planned c = record { channel = c.channel; slots = c.slots - cost_on c.channel planned; claims = c.claims }

abbrev given_to : Planned → ChannelPlan → ChannelPlan
given_to planned c = record { channel = c.channel; slots = c.slots + cost_on c.channel planned; claims = c.claims }

abbrev with_count : ChannelPlan → ℕ → ChannelPlan
with_count c slots = record { channel = c.channel; slots = slots; claims = c.claims }

module _ (t : Tables) (turn : Turn) (lawful : AreTables t) (is : IsTurnIn t turn) where
  abbrev flow : FlowTable
  flow = turn.cluster.flow

  abbrev header : ℕ
  header = header_bytes flow

  abbrev seats : List Seat
  seats = seats_from t.channels 0 flow.channels turn.cluster.sids

  abbrev planned_with : List ℕ → Planned
  planned_with shares = record { turn = turn; shares = shares }

  taken_each : (shares : List ℕ) (found : Option ℕ) (c : ChannelPlan) →
      slotted_there (λ k c. c.slots - share_cost c.channel header (slice_index shares k)) 0 found c ≡
      with_count c (c.slots - share_cost c.channel header (share_at shares found))
  taken_each shares None c = let all : c.slots ≡ c.slots - 0 = omega arith in ap (with_count c) all
  taken_each shares (Some k) c =
      let start : 0 + k ≡ k = omega arith in
      ap (λ n. with_count c (c.slots - share_cost c.channel header (slice_index shares n))) start

  taken_all : (shares : List ℕ) (xs : List ChannelPlan) →
      map (λ c. slotted_there (λ k c. c.slots - share_cost c.channel header (slice_index shares k)) 0 (position_of flow.channels c) c) xs ≡
      map (taken_by (planned_with shares)) xs
  unfolding cost_on
  taken_all shares [] = refl
  taken_all shares (x ∷ xs) = ap₂ (λ c cs. c ∷ cs) (taken_each shares (position_of flow.channels x) x) (taken_all shares xs)

  pub taken_turn : (shares : List ℕ) (xs : List ChannelPlan) → map (λ c. c.channel) xs ≡ t.channels →
      taken_at header shares seats xs ≡ map (taken_by (planned_with shares)) xs
  taken_turn shares xs same =
      slots_at (λ k c. c.slots - share_cost c.channel header (slice_index shares k)) t.channels 0 flow.channels turn.cluster.sids xs
      same lawful.channels_apart (flow_of t turn lawful is).apart (flow_of t turn lawful is).channels ∙
      taken_all shares xs

  -- budgets that stay budgets once they have a cost back
  abbrev CanHave : Planned → ChannelPlan → Type 0
  CanHave planned c = IsBudget (record { channel = c.channel; slots = c.slots + cost_on c.channel planned })

  within_most : (c : ChannelPlan) (cost : ℕ) → (c.slots + cost) * minislot_ticks c.channel.bursts.time ≤ 4096 →
      min (c.slots + cost) (most_slots c.channel) ≡ c.slots + cost
  within_most c cost ticks =
      omega (arith, few_slots c.channel.bursts.time (c.slots + cost) ticks)

  given_each : (shares : List ℕ) (found : Option ℕ) (c : ChannelPlan) →
      (c.slots + share_cost c.channel header (share_at shares found)) * minislot_ticks c.channel.bursts.time ≤ 4096 →
      slotted_there (λ k c. min (c.slots + share_cost c.channel header (slice_index shares k)) (most_slots c.channel)) 0 found c ≡
      with_count c (c.slots + share_cost c.channel header (share_at shares found))
  given_each shares None c ticks = let all : c.slots ≡ c.slots + 0 = omega arith in ap (with_count c) all
  given_each shares (Some k) c ticks =
      let start : 0 + k ≡ k = omega arith in
      ap (λ n. with_count c (min (c.slots + share_cost c.channel header (slice_index shares n)) (most_slots c.channel))) start ∙
      ap (with_count c) (within_most c (share_cost c.channel header (slice_index shares k)) ticks)

  given_all : (shares : List ℕ) (xs : List ChannelPlan) → AllByRecursion (CanHave (planned_with shares)) xs →
      map (λ c. slotted_there (λ k c. min (c.slots + share_cost c.channel header (slice_index shares k)) (most_slots c.channel)) 0 (position_of flow.channels c) c) xs ≡
      map (given_to (planned_with shares)) xs
  unfolding cost_on
  given_all shares [] all = refl
  given_all shares (x ∷ xs) all =
      ap₂ (λ c cs. c ∷ cs) (given_each shares (position_of flow.channels x) x all.0.ticks) (given_all shares xs all.1)

  pub given_turn : (shares : List ℕ) (xs : List ChannelPlan) → map (λ c. c.channel) xs ≡ t.channels →
      AllByRecursion (CanHave (planned_with shares)) xs →
      returned_at header shares seats xs ≡ map (given_to (planned_with shares)) xs
  given_turn shares xs same all =
      slots_at (λ k c. min (c.slots + share_cost c.channel header (slice_index shares k)) (most_slots c.channel)) t.channels 0 flow.channels
      turn.cluster.sids xs same lawful.channels_apart (flow_of t turn lawful is).apart (flow_of t turn lawful is).channels ∙
      given_all shares xs all

-- The first pass.

-- what a turn with first shares leaves
abbrev first_further : Planned → FirstPass → FirstPass
first_further planned pass = record {
  partial = partial_of (map (taken_by planned) pass.partial.channels) (allowed_less planned pass.partial.allowances);
  reserves = set pass.reserves planned.turn.place (slice_index pass.reserves planned.turn.place - sum planned.shares);
  firsts = pass.firsts ++ planned.shares ∷ [];
}

abbrev firsts_through : List Planned → FirstPass → FirstPass
firsts_through [] pass = pass
firsts_through (planned ∷ plan) pass = firsts_through plan (first_further planned pass)

-- what turns of these flows may plan with in the first pass
abbrev limited_in : List FlowTable → FirstPass → Ledger
limited_in flows pass = record {
  budgets = map budget_in pass.partial.channels;
  allowances = first_limits pass.partial.allowances (min_rate_reserves flows pass.reserves);
}

least_of_three : (allowance : Option ℕ) (bytes reserve : ℕ) →
    min (at_most allowance bytes) reserve ≡ min bytes (at_most allowance reserve)
least_of_three None bytes reserve = refl
least_of_three (Some most) bytes reserve = omega arith

-- a turn has by its row the first shares that it has by the limits
first_shares : (t : Tables) (outstanding : List ℕ) (place : ℕ) (turn : Turn) (pass : FirstPass) → AreTables t →
    IsTurnIn t turn → map (λ c. c.channel) pass.partial.channels ≡ t.channels →
    length pass.partial.allowances ≡ length t.flows →
    first_in (row_of t.channels place turn) (slice_index outstanding turn.number) pass.partial pass.reserves ≡
    shares_of outstanding (limited_in t.flows pass) turn
unfolding shares_of weights
first_shares t outstanding place turn pass lawful is same flows =
    let f : FlowTable = turn.cluster.flow in
    let bytes : ℕ = slice_index outstanding turn.number in
    let allowance : Option ℕ = slice_index_or pass.partial.allowances turn.place None in
    let reserve : ℕ = reserve_for (row_of t.channels place turn) pass.reserves in
    let within = slice_get_within t.flows turn.place f is.flow in
    let limit = limit-at pass.partial.allowances (min_rate_reserves t.flows pass.reserves) turn.place (omega (arith, within, flows)) in
    let reserved : slice_index (min_rate_reserves t.flows pass.reserves) turn.place ≡ reserve =
    flow_reserve t.flows pass.reserves turn.place f is.flow in
    ap₂ divided
    (least_of_three allowance bytes reserve ∙
    ap (λ most. at_most most bytes) (sym (limit ∙ ap (λ n. Some (at_most allowance n)) reserved)))
    (weights_there t.channels (header_bytes f) 0 f.channels turn.cluster.sids pass.partial.channels same lawful.channels_apart
    (flow_of t turn lawful is).channels)

first_step : (t : Tables) (outstanding : List ℕ) (place : ℕ) (turn : Turn) (pass : FirstPass) → AreTables t → IsTurnIn t turn →
    map (λ c. c.channel) pass.partial.channels ≡ t.channels → length pass.partial.allowances ≡ length t.flows →
    with_first_row (row_of t.channels place turn) (slice_index outstanding turn.number) pass ≡
    first_further (record { turn = turn; shares = shares_of outstanding (limited_in t.flows pass) turn }) pass
first_step t outstanding place turn pass lawful is same flows =
    let shares : List ℕ = shares_of outstanding (limited_in t.flows pass) turn in
    let seats : List Seat = seats_from t.channels 0 turn.cluster.flow.channels turn.cluster.sids in
    ap (λ ss. pass_of (taken_at (header_bytes turn.cluster.flow) ss seats pass.partial.channels)
    (allowed_less (record { turn = turn; shares = ss }) pass.partial.allowances)
    (set pass.reserves turn.place (slice_index pass.reserves turn.place - sum ss)) (pass.firsts ++ ss ∷ []))
    (first_shares t outstanding place turn pass lawful is same flows) ∙
    ap (λ cs. pass_of cs (allowed_less (record { turn = turn; shares = shares }) pass.partial.allowances)
    (set pass.reserves turn.place (slice_index pass.reserves turn.place - sum shares)) (pass.firsts ++ shares ∷ []))
    (taken_turn t turn lawful is shares pass.partial.channels same)

-- the limits fall as allowances and reserves do
limits_less : (allowances : List (Option ℕ)) (reserves : List ℕ) (place bytes : ℕ) →
    first_limits (set allowances place (option_map (λ most. most - bytes) (slice_index_or allowances place None)))
    (set reserves place (slice_index reserves place - bytes)) ≡
    set (first_limits allowances reserves) place
    (option_map (λ most. most - bytes) (slice_index_or (first_limits allowances reserves) place None))
limits_less [] reserves place bytes = refl
limits_less (allowance ∷ allowances) [] zero bytes =
    let none : 0 ≡ 0 - bytes = omega arith in ap (λ n. Some n ∷ first_limits allowances []) none
limits_less (allowance ∷ allowances) [] (suc place) bytes = ap (λ limits. Some 0 ∷ limits) (limits_less allowances [] place bytes)
limits_less (None ∷ allowances) (reserve ∷ reserves) zero bytes = refl
limits_less (Some most ∷ allowances) (reserve ∷ reserves) zero bytes =
    let both : min (reserve - bytes) (most - bytes) ≡ min reserve most - bytes = omega arith in
    ap (λ n. Some n ∷ first_limits allowances reserves) both
limits_less (allowance ∷ allowances) (reserve ∷ reserves) (suc place) bytes =
    ap (λ limits. Some (at_most allowance reserve) ∷ limits) (limits_less allowances reserves place bytes)

budgets_taken : (planned : Planned) (cs : List ChannelPlan) → map budget_in (map (taken_by planned) cs) ≡ lowered planned (map budget_in cs)
budgets_taken planned [] = refl
budgets_taken planned (c ∷ cs) = ap (λ bs. budget_in (taken_by planned c) ∷ bs) (budgets_taken planned cs)

channels_taken : (planned : Planned) (cs : List ChannelPlan) → map (λ c. c.channel) (map (taken_by planned) cs) ≡ map (λ c. c.channel) cs
channels_taken planned [] = refl
channels_taken planned (c ∷ cs) = ap (λ xs. c.channel ∷ xs) (channels_taken planned cs)

claims_taken : (planned : Planned) (f : Channel → List Claim) (cs : List ChannelPlan) →
    map (λ c. c.claims ++ f c.channel) (map (taken_by planned) cs) ≡ map (λ c. c.claims ++ f c.channel) cs
claims_taken planned f [] = refl
claims_taken planned f (c ∷ cs) = ap (λ xs. (c.claims ++ f c.channel) ∷ xs) (claims_taken planned f cs)

limited_after : (flows : List FlowTable) (planned : Planned) (pass : FirstPass) →
    limited_in flows (first_further planned pass) ≡ after_turn (limited_in flows pass) planned
unfolding after_turn
limited_after flows planned pass =
    ap₂ (λ budgets allowances. let l : Ledger = record { budgets = budgets; allowances = allowances } in l)
    (budgets_taken planned pass.partial.channels)
    (ap (first_limits (allowed_less planned pass.partial.allowances))
    (reserved_less flows pass.reserves planned.turn.place (sum planned.shares)) ∙
    limits_less pass.partial.allowances (min_rate_reserves flows pass.reserves) planned.turn.place (sum planned.shares))

-- all turns at places

module _ (t : Tables) (outstanding : List ℕ) (lawful : AreTables t) where
  abbrev all_turns : List Turn
  all_turns = turns_of t

  abbrev all_rows : List TurnRow
  all_rows = rows_from t.channels 0 (turns_of t)

  row_found : (place : ℕ) (turn : Turn) → slice_get all_turns place ≡ Some turn →
      slice_get all_rows place ≡ Some (row_of t.channels place turn)
  row_found place turn at =
      let start : 0 + place ≡ place = omega arith in
      row_there t.channels 0 place all_turns ∙ ap₂ (λ n o. option_map (row_of t.channels n) o) start at

  pub firsts_of_rows : (places : List ℕ) (pass : FirstPass) → map (λ c. c.channel) pass.partial.channels ≡ t.channels →
      length pass.partial.allowances ≡ length t.flows → AllByRecursion (λ place. place < length all_turns) places →
      with_firsts all_rows outstanding places pass ≡
      firsts_through (plan_of outstanding (limited_in t.flows pass) (turns_at all_turns places)) pass
  unfolding plan_of
  firsts_of_rows [] pass same flows inside = refl
  firsts_of_rows (place ∷ places) pass same flows inside =
      let found = some_at all_turns place inside.0 in
      let turn : Turn = found.0 in
      let is : IsTurnIn t turn = all_at (IsTurnIn t) all_turns place turn (turns_of-turns t) found.1 in
      let planned : Planned = record { turn = turn; shares = shares_of outstanding (limited_in t.flows pass) turn } in
      let next : FirstPass = first_further planned pass in
      let step : with_first_if (slice_get all_rows place) outstanding pass ≡ next =
      ap (λ o. with_first_if o outstanding pass) (row_found place turn found.1) ∙
      first_step t outstanding place turn pass lawful is same flows in
      let rest : turns_at all_turns (place ∷ places) ≡ turn ∷ turns_at all_turns places =
      ap (λ o. cons_option o (turns_at all_turns places)) found.1 in
      let long : length next.partial.allowances ≡ length t.flows =
      length-set pass.partial.allowances turn.place (option_map (λ most. most - sum planned.shares) (slice_index_or pass.partial.allowances turn.place None)) ∙ flows in
      ap (with_firsts all_rows outstanding places) step ∙
      firsts_of_rows places next (channels_taken planned pass.partial.channels ∙ same) long inside.1 ∙
      ap (λ l. firsts_through (plan_of outstanding l (turns_at all_turns places)) next) (limited_after t.flows planned pass) ∙
      ap (λ ts. firsts_through (plan_of outstanding (limited_in t.flows pass) ts) pass) (sym rest)

-- what it comes to

through-ledger : (plan : List Planned) (pass : FirstPass) →
    ledger_in (firsts_through plan pass).partial ≡ after_plan (ledger_in pass.partial) plan
unfolding after_plan after_turn
through-ledger [] pass = refl
through-ledger (planned ∷ plan) pass =
    through-ledger plan (first_further planned pass) ∙
    ap (λ bs. after_plan (record { budgets = bs; allowances = allowed_less planned pass.partial.allowances }) plan)
    (budgets_taken planned pass.partial.channels)

through-channels : (plan : List Planned) (pass : FirstPass) →
    map (λ c. c.channel) (firsts_through plan pass).partial.channels ≡ map (λ c. c.channel) pass.partial.channels
through-channels [] pass = refl
through-channels (planned ∷ plan) pass =
    through-channels plan (first_further planned pass) ∙ channels_taken planned pass.partial.channels

through-claims : (plan : List Planned) (pass : FirstPass) (f : Channel → List Claim) →
    map (λ c. c.claims ++ f c.channel) (firsts_through plan pass).partial.channels ≡
    map (λ c. c.claims ++ f c.channel) pass.partial.channels
through-claims [] pass f = refl
through-claims (planned ∷ plan) pass f =
    through-claims plan (first_further planned pass) f ∙ claims_taken planned f pass.partial.channels

through-firsts : (plan : List Planned) (pass : FirstPass) →
    (firsts_through plan pass).firsts ≡ pass.firsts ++ map (λ planned. planned.shares) plan
through-firsts [] pass = sym (append-nil pass.firsts)
through-firsts (planned ∷ plan) pass =
    through-firsts plan (first_further planned pass) ∙
    append_assoc pass.firsts (planned.shares ∷ []) (map (λ planned. planned.shares) plan)

-- a number at a place falls, if it is there
less_there : (numbers : List ℕ) (place bytes : ℕ) →
    slice_index (set numbers place (slice_index numbers place - bytes)) place ≡ slice_index numbers place - bytes
less_there numbers place bytes = elim (cases_lt place (length numbers)) [
  | inl within ↦ get_or-set_same numbers place (slice_index numbers place - bytes) 0 within
  | inr past ↦
      let left : ℕ = slice_index numbers place - bytes in
      let none : slice_index numbers place ≡ 0 = get_or_past numbers place 0 past in
      let after : slice_index (set numbers place left) place ≡ 0 =
      get_or_past (set numbers place left) place 0 (omega (arith, past, length-set numbers place left)) in
      omega (arith, none, after)
]

through-reserves : (plan : List Planned) (pass : FirstPass) (place : ℕ) →
    slice_index (firsts_through plan pass).reserves place ≡ slice_index pass.reserves place - flow_bytes plan place
through-reserves [] pass place = let all : slice_index pass.reserves place ≡ slice_index pass.reserves place - 0 = omega arith in all
through-reserves (planned ∷ plan) pass place =
    let next : FirstPass = first_further planned pass in
    let later : slice_index (firsts_through plan next).reserves place ≡ slice_index next.reserves place - flow_bytes plan place =
    through-reserves plan next place in
    let own : List Planned = filter (λ planned. planned.turn.place == place) plan in
    elim (cases_eq planned.turn.place place) [
      | inl same ↦
          let here : slice_index next.reserves place ≡ slice_index pass.reserves place - sum planned.shares =
          ap (λ p. slice_index (set pass.reserves p (slice_index pass.reserves p - sum planned.shares)) place) same ∙
          less_there pass.reserves place (sum planned.shares) in
          rw (eq-eqb planned.turn.place place same)
          (omega (arith, later, here, sum_by-cons (λ (p : Planned). sum p.shares) planned own))
      | inr other ↦
          let here : slice_index next.reserves place ≡ slice_index pass.reserves place =
          get_or-set_other pass.reserves planned.turn.place place (slice_index pass.reserves planned.turn.place - sum planned.shares) 0
          (λ same. other (sym same)) in
          rw (ne_eqb planned.turn.place place other) (omega (arith, later, here))
    ]

-- The second pass.

budgets_given : (first : Planned) (cs : List ChannelPlan) → map budget_in (map (given_to first) cs) ≡ given_back first (map budget_in cs)
budgets_given first [] = refl
budgets_given first (c ∷ cs) = ap (λ bs. budget_in (given_to first c) ∷ bs) (budgets_given first cs)

channels_given : (first : Planned) (cs : List ChannelPlan) → map (λ c. c.channel) (map (given_to first) cs) ≡ map (λ c. c.channel) cs
channels_given first [] = refl
channels_given first (c ∷ cs) = ap (λ xs. c.channel ∷ xs) (channels_given first cs)

claims_given : (first : Planned) (f : Channel → List Claim) (cs : List ChannelPlan) →
    map (λ c. c.claims ++ f c.channel) (map (given_to first) cs) ≡ map (λ c. c.claims ++ f c.channel) cs
claims_given first f [] = refl
claims_given first f (c ∷ cs) = ap (λ xs. (c.claims ++ f c.channel) ∷ xs) (claims_given first f cs)

-- what a turn with all its shares leaves
abbrev second_further : ℕ → Planned → List ℕ → PartialPlan → PartialPlan
second_further place first more partial =
    partial_of (map (with_turn place (with_more first more)) (map (given_to first) partial.channels))
    (allowed_less (record { turn = first.turn; shares = more }) partial.allowances)

ledger_both : (place : ℕ) (first : Planned) (more : List ℕ) (partial : PartialPlan) →
    ledger_in (second_further place first more partial) ≡ after_both (ledger_in partial) first more
unfolding after_both
ledger_both place first more partial =
    ap (λ bs. let l : Ledger = record { budgets = bs; allowances = allowed_less (record { turn = first.turn; shares = more }) partial.allowances } in l)
    (after_with place (with_more first more) (map (given_to first) partial.channels) ∙
    ap (lowered (with_more first more)) (budgets_given first partial.channels))

second_step : (t : Tables) (outstanding : List ℕ) (place : ℕ) (first : Planned) (partial : PartialPlan) → AreTables t →
    IsTurnIn t first.turn → map (λ c. c.channel) partial.channels ≡ t.channels →
    AllByRecursion (λ c. IsBudget (record { channel = c.channel; slots = c.slots + cost_on c.channel first })) partial.channels →
    with_second_row (row_of t.channels place first.turn) (slice_index outstanding first.turn.number) first.shares partial ≡
    second_further place first (more_shares outstanding (ledger_in partial) first) partial
unfolding more_shares weights
second_step t outstanding place first partial lawful is same can =
    let turn : Turn = first.turn in
    let f : FlowTable = turn.cluster.flow in
    let flow : IsFlow t f = flow_of t turn lawful is in
    let seats : List Seat = seats_from t.channels 0 f.channels turn.cluster.sids in
    let row : TurnRow = row_of t.channels place turn in
    let asker : Asker = asker_of place turn in
    let given : List ChannelPlan = map (given_to first) partial.channels in
    let returns : returned_at (header_bytes f) first.shares seats partial.channels ≡ given =
    given_turn t turn lawful is first.shares partial.channels same can in
    let bytes : ℕ =
    at_most (slice_index_or partial.allowances turn.place None) (slice_index outstanding turn.number - sum first.shares) in
    let own : map (λ c. c.channel) given ≡ t.channels = channels_given first partial.channels ∙ same in
    let more : List ℕ = more_shares outstanding (ledger_in partial) first in
    let gets : more_in row (slice_index outstanding turn.number) first.shares partial ≡ more =
    ap (λ cs. divided bytes (minus (map (λ (seat : Seat). weight_at (header_bytes f) cs seat.place) seats) first.shares)) returns ∙
    ap (λ ws. divided bytes (minus ws first.shares))
    (weights_there t.channels (header_bytes f) 0 f.channels turn.cluster.sids given own lawful.channels_apart flow.channels ∙
    ap (weights f) (budgets_given first partial.channels)) in
    ap₂ (λ ss cs. partial_of (put_from asker 0 seats (added first.shares ss) cs)
    (allowed_less (record { turn = turn; shares = ss }) partial.allowances)) gets returns ∙
    ap (λ cs. partial_of cs (allowed_less (record { turn = turn; shares = more }) partial.allowances))
    (put_claimed t.channels asker 0 f.channels turn.cluster.sids (added first.shares more) given own lawful.channels_apart flow.channels ∙
    claimed_turn place (with_more first more) given flow.apart)

-- first shares of turns at places
abbrev ArePlaced : List Turn → List ℕ → List Planned → Type 0
ArePlaced turns [] [] = Unit {0}
ArePlaced turns [] (first ∷ plan) = ⊥
ArePlaced turns (place ∷ places) [] = ⊥
ArePlaced turns (place ∷ places) (first ∷ plan) = (slice_get turns place ≡ Some first.turn) × ArePlaced turns places plan

planned_placed : (outstanding : List ℕ) (turns : List Turn) (ledger : Ledger) (places : List ℕ) →
    AllByRecursion (λ place. place < length turns) places →
    ArePlaced turns places (plan_of outstanding ledger (turns_at turns places))
unfolding plan_of
planned_placed outstanding turns ledger [] inside = tt
planned_placed outstanding turns ledger (place ∷ places) inside =
    let found = some_at turns place inside.0 in
    let turn : Turn = found.0 in
    let planned : Planned = record { turn = turn; shares = shares_of outstanding ledger turn } in
    let rest : turns_at turns (place ∷ places) ≡ turn ∷ turns_at turns places = ap (λ o. cons_option o (turns_at turns places)) found.1 in
    subst (λ ts. ArePlaced turns (place ∷ places) (plan_of outstanding ledger ts)) (sym rest)
    (found.1, planned_placed outstanding turns (after_turn ledger planned) places inside.1)

held_first : (first : Planned) (plan : List Planned) (cs : List ChannelPlan) → AllByRecursion (IsHeld (first ∷ plan)) (map budget_in cs) →
    AllByRecursion (λ c. IsBudget (record { channel = c.channel; slots = c.slots + cost_on c.channel first })) cs
held_first first plan cs all = each cs (held-given first plan (map budget_in cs) all)
  where
    each : (cs : List ChannelPlan) → AllByRecursion IsBudget (given_back first (map budget_in cs)) →
        AllByRecursion (λ c. IsBudget (record { channel = c.channel; slots = c.slots + cost_on c.channel first })) cs
    each [] all = tt
    each (c ∷ cs) all = (all.0, each cs all.1)

no_more_claims : (cs : List ChannelPlan) → map (λ c. c.claims) cs ≡ map (λ c. c.claims ++ []) cs
no_more_claims [] = refl
no_more_claims (c ∷ cs) = ap₂ (λ x xs. x ∷ xs) (sym (append-nil c.claims)) (no_more_claims cs)

seconds_of_rows : (t : Tables) (outstanding : List ℕ) (lawful : AreTables t) (places : List ℕ) (plan : List Planned)
    (partial : PartialPlan) → ArePlaced (turns_of t) places plan → map (λ c. c.channel) partial.channels ≡ t.channels →
    AllByRecursion (IsHeld plan) (map budget_in partial.channels) →
    map (λ c. c.claims)
    (with_seconds (rows_from t.channels 0 (turns_of t)) outstanding places (map (λ planned. planned.shares) plan) partial).channels ≡
    map (λ c. c.claims ++ claims_at c.channel places (second_of outstanding (ledger_in partial) plan)) partial.channels
unfolding second_of
seconds_of_rows t outstanding lawful [] [] partial placed same held = no_more_claims partial.channels
seconds_of_rows t outstanding lawful [] (first ∷ plan) partial placed same held = absurd placed
seconds_of_rows t outstanding lawful (place ∷ places) [] partial placed same held = absurd placed
seconds_of_rows t outstanding lawful (place ∷ places) (first ∷ plan) partial placed same held =
    let rows : List TurnRow = rows_from t.channels 0 (turns_of t) in
    let is : IsTurnIn t first.turn = all_at (IsTurnIn t) (turns_of t) place first.turn (turns_of-turns t) placed.0 in
    let more : List ℕ = more_shares outstanding (ledger_in partial) first in
    let both : Planned = with_more first more in
    let next : PartialPlan = second_further place first more partial in
    let given : List ChannelPlan = map (given_to first) partial.channels in
    let shares : List (List ℕ) = map (λ planned. planned.shares) plan in
    let rest : List Planned = second_of outstanding (after_both (ledger_in partial) first more) plan in
    let step : with_second_if (slice_get rows place) outstanding first.shares partial ≡ next =
    ap (λ o. with_second_if o outstanding first.shares partial) (row_found t outstanding lawful place first.turn placed.0) ∙
    second_step t outstanding place first partial lawful is same (held_first first plan partial.channels held) in
    let still : AllByRecursion (IsHeld plan) (map budget_in next.channels) =
    subst (AllByRecursion (IsHeld plan))
    (sym (after_with place both given ∙ ap (lowered both) (budgets_given first partial.channels)))
    (held-after first more plan (map budget_in partial.channels) held) in
    ap (λ p. map (λ c. c.claims) (with_seconds rows outstanding places shares p).channels) step ∙
    seconds_of_rows t outstanding lawful places plan next placed.1
    (channels_of_turn place both given ∙ channels_given first partial.channels ∙ same) still ∙
    ap (λ l. map (λ c. c.claims ++ claims_at c.channel places (second_of outstanding l plan)) next.channels)
    (ledger_both place first more partial) ∙
    claims_of_more place both places rest given ∙
    claims_given first (λ c. claims_at c (place ∷ places) (both ∷ rest)) partial.channels

-- Both.

module _ (t : Tables) (outstanding : List ℕ) (places reserves : List ℕ) (partial : PartialPlan) (lawful : AreTables t)
    (same : map (λ c. c.channel) partial.channels ≡ t.channels) (flows : length partial.allowances ≡ length t.flows)
    (inside : AllByRecursion (λ place. place < length (turns_of t)) places) where
  abbrev these : List Turn
  these = turns_at (turns_of t) places

  abbrev rows : List TurnRow
  rows = rows_from t.channels 0 (turns_of t)

  -- what is reserved for flows with a minimum rate
  abbrev kept : List ℕ
  kept = min_rate_reserves t.flows reserves

  abbrev firsts : List Planned
  firsts = first_of outstanding (ledger_in partial) kept these

  -- where nothing is reserved for these turns the first pass gives nothing
  nothing_at : (places : List ℕ) → AllByRecursion (λ place. place < length (turns_of t)) places →
      some_reserved rows reserves places ≡ false → NothingFirst partial.allowances kept (turns_at (turns_of t) places)
  nothing_at [] inside none = tt
  nothing_at (place ∷ places) inside none =
      let found = some_at (turns_of t) place inside.0 in
      let turn : Turn = found.0 in
      let is : IsTurnIn t turn = all_at (IsTurnIn t) (turns_of t) place turn (turns_of-turns t) found.1 in
      let within = slice_get_within t.flows turn.place turn.cluster.flow is.flow in
      let own : ℕ = reserve_for (row_of t.channels place turn) reserves in
      let here : (nat_lt 0 own || some_reserved rows reserves places) ≡ false =
      ap (λ o. is_reserved o reserves || some_reserved rows reserves places) (sym (row_found t outstanding lawful place turn found.1)) ∙ none in
      let parts = both_false (nat_lt 0 own) (some_reserved rows reserves places) here in
      let empty : slice_index kept turn.place ≡ 0 =
      flow_reserve t.flows reserves turn.place turn.cluster.flow is.flow ∙ none_above own parts.0 in
      let rest : turns_at (turns_of t) (place ∷ places) ≡ turn ∷ turns_at (turns_of t) places =
      ap (λ o. cons_option o (turns_at (turns_of t) places)) found.1 in
      subst (NothingFirst partial.allowances kept) (sym rest)
      (nothing_first partial.allowances kept turn.place (omega (arith, within, flows)) empty, nothing_at places inside.1 parts.1)
    where
      none_above : (n : ℕ) → nat_lt 0 n ≡ false → n ≡ 0
      none_above n is = omega (arith, ltb-false 0 n is)

      both_false : (a b : Bool) → (a || b) ≡ false → (a ≡ false) × (b ≡ false)
      both_false true b is = let no : true ≡ false = is in cc
      both_false false b is = (refl, is)

  pub claims_of_passes : AllByRecursion IsBudget (map budget_in partial.channels) →
      AreApart (map (λ b. b.channel.id) (map budget_in partial.channels)) →
      map (λ c. c.claims) (last_pass rows outstanding places partial reserves).channels ≡
      map (λ c. c.claims ++ claims_at c.channel places (two_passes outstanding (ledger_in partial) kept these)) partial.channels
  unfolding two_passes
  claims_of_passes budgets apart = elim (cases_Bool (some_reserved rows reserves places)) [
    | inr none ↦
        rw none
        (claims_of_rows t outstanding places partial lawful same inside ∙
        ap (λ plan. map (λ c. c.claims ++ claims_at c.channel places plan) partial.channels)
        (sym (one_pass outstanding (ledger_in partial) kept these (nothing_at places inside none))))
    | inl some ↦
        let pass : FirstPass = firsts_through firsts (no_firsts partial reserves) in
        let passed : with_firsts rows outstanding places (no_firsts partial reserves) ≡ pass =
        firsts_of_rows t outstanding lawful places (no_firsts partial reserves) same flows inside in
        let shares : pass.firsts ≡ map (λ planned. planned.shares) firsts = through-firsts firsts (no_firsts partial reserves) in
        let ledger : ledger_in pass.partial ≡ after_plan (ledger_in partial) firsts =
        through-ledger firsts (no_firsts partial reserves) in
        let held : AllByRecursion (IsHeld firsts) (map budget_in pass.partial.channels) =
        subst (λ (l : Ledger). AllByRecursion (IsHeld firsts) l.budgets) (sym ledger)
        (held_after outstanding (ledger_in partial) kept these budgets apart) in
        rw some
        (ap (λ (p : FirstPass). map (λ c. c.claims) (with_seconds rows outstanding places p.firsts p.partial).channels) passed ∙
        ap (λ fs. map (λ c. c.claims) (with_seconds rows outstanding places fs pass.partial).channels) shares ∙
        seconds_of_rows t outstanding lawful places firsts pass.partial
        (planned_placed outstanding (turns_of t) (limited_in t.flows (no_firsts partial reserves)) places inside)
        (through-channels firsts (no_firsts partial reserves) ∙ same) held ∙
        ap (λ l. map (λ c. c.claims ++ claims_at c.channel places (second_of outstanding l firsts)) pass.partial.channels) ledger ∙
        through-claims firsts (no_firsts partial reserves)
        (λ c. claims_at c places (second_of outstanding (after_plan (ledger_in partial) firsts) firsts)))
  ]

  none_taken : (plan : List Planned) (place : ℕ) → AllByRecursion IsNone plan → flow_bytes plan place ≡ 0
  none_taken [] place all = refl
  none_taken (planned ∷ plan) place all = elim (cases_Bool (planned.turn.place == place)) [
    | inl t ↦
        rw t (omega (arith, sum_by-cons (λ (p : Planned). sum p.shares) planned (filter (λ planned. planned.turn.place == place) plan), none_taken plan place all.1, all.0.bytes))
    | inr f ↦ rw f (none_taken plan place all.1)
  ]

  -- and what they leave of reserves
  pub reserves_of_passes : (place : ℕ) →
      slice_index (first_pass rows outstanding places partial reserves).reserves place ≡
      slice_index reserves place - flow_bytes firsts place
  reserves_of_passes place = elim (cases_Bool (some_reserved rows reserves places)) [
    | inr none ↦
        let empty : flow_bytes firsts place ≡ 0 =
        none_taken firsts place (none_in_first outstanding (ledger_in partial) kept these (nothing_at places inside none)) in
        rw none (omega (arith, empty))
    | inl some ↦
        rw some
        (ap (λ (p : FirstPass). slice_index p.reserves place)
        (firsts_of_rows t outstanding lawful places (no_firsts partial reserves) same flows inside) ∙
        through-reserves firsts (no_firsts partial reserves) place)
  ]

-- A round.

-- those who don't ask have no first shares
asked_bytes : (outstanding : List ℕ) (plan : List Planned) (place : ℕ) → AreIdle outstanding plan →
    flow_bytes (asked_in outstanding plan) place ≡ flow_bytes plan place
asked_bytes outstanding [] place idle = refl
asked_bytes outstanding (p ∷ plan) place idle =
    let rest : flow_bytes (asked_in outstanding plan) place ≡ flow_bytes plan place = asked_bytes outstanding plan place idle.1 in
    let own : List Planned → List Planned = λ plan. filter (λ planned. planned.turn.place == place) plan in
    elim (cases_Bool (asks outstanding p.turn.number)) [
      | inl t ↦
          rw t (elim (cases_Bool (p.turn.place == place)) [
            | inl here ↦
                rw here (omega (
                  arith,
                  sum_by-cons (λ (p : Planned). sum p.shares) p (own (asked_in outstanding plan)),
                  sum_by-cons (λ (p : Planned). sum p.shares) p (own plan),
                  rest,
                ))
            | inr other ↦ rw other rest
          ])
      | inr f ↦
          rw f (elim (cases_Bool (p.turn.place == place)) [
            | inl here ↦ rw here (omega (arith, sum_by-cons (λ (p : Planned). sum p.shares) p (own plan), idle.0 f, rest))
            | inr other ↦ rw other rest
          ])
    ]

module _ (t : Tables) (outstanding askers idle : List ℕ) (known allowed : List (Option ℕ)) (known_reserves reserves : List ℕ)
    (old : List ChannelPlan) (lawful : AreTables t) (is : IsIdle t idle) (flows : length known ≡ length t.flows)
    (own : map (λ c. c.channel) old ≡ t.channels) (ask : askers ≡ asking_in t outstanding)
    (agree : AgreeOn (turns_at (turns_of t) askers) known allowed known_reserves reserves) where
  abbrev start : PartialPlan
  start = idle_plan t known idle

  abbrev places : List ℕ
  places = asking_in t outstanding

  agreed : AgreeOn (turns_at (turns_of t) places) known allowed known_reserves reserves
  agreed = subst (λ ps. AgreeOn (turns_at (turns_of t) ps) known allowed known_reserves reserves) ask agree

  own_start : map (λ c. c.channel) start.channels ≡ t.channels
  own_start =
      ap (λ (p : PartialPlan). map (λ c. c.channel) p.channels) (sym (cleared_is t known old idle own)) ∙
      cleared_channels old idle (is.one_each ∙ sym (ap length own) ∙ length-map old (λ (c : ChannelPlan). c.channel)) ∙ own

  budgets : AllByRecursion IsBudget (map budget_in start.channels)
  budgets =
      subst (AllByRecursion IsBudget) (sym (idle_budgets t.channels idle))
      (idle-budgets t t.channels idle lawful.round_ticks.1 lawful.channels is.within)

  apart : AreApart (map (λ b. b.channel.id) (map budget_in start.channels))
  apart =
      subst (λ (bs : List Budget). AreApart (map (λ b. b.channel.id) bs)) (sym (idle_budgets t.channels idle))
      (subst AreApart (sym (idle_ids t.channels idle is.one_each)) lawful.channels_apart)

  pub claims_of_round : (left : List (Option ℕ)) (new : List ChannelPlan) →
      partial_of new left ≡
      last_pass (rows_from t.channels 0 (turns_of t)) outstanding askers (partial_of (cleared old idle) known) known_reserves →
      map (λ c. c.claims) new ≡ all_claims t (plan_for t outstanding allowed reserves idle)
  claims_of_round left new planned =
      let rows : List TurnRow = rows_from t.channels 0 (turns_of t) in
      let turns : List Turn = turns_at (turns_of t) places in
      ap (λ p. map (λ c. c.claims) p.channels)
      (planned ∙ ap₂ (λ ps p. last_pass rows outstanding ps p known_reserves) ask (cleared_is t known old idle own)) ∙
      claims_of_passes t outstanding places known_reserves start lawful own_start flows (askers_inside t outstanding) budgets
      apart ∙
      ap (λ bs. map (λ c. c.claims ++ claims_at c.channel places
      (two_passes outstanding (record { budgets = bs; allowances = known }) (min_rate_reserves t.flows known_reserves) turns))
      start.channels)
      (idle_budgets t.channels idle) ∙
      idle_claims_by (λ c. claims_at c places (plan_of_askers t outstanding known known_reserves idle)) t.channels idle is.one_each ∙
      askers_claim_all t outstanding known allowed known_reserves reserves idle agreed

  first_bytes : (place : ℕ) →
      flow_bytes (first_of outstanding (ledger_in start) (min_rate_reserves t.flows known_reserves) (turns_at (turns_of t) places)) place ≡
      reserved_for t outstanding allowed reserves idle place
  unfolding reserved_for
  first_bytes place =
      let these : List Turn = filter (λ turn. asks outstanding turn.number) (turns_of t) in
      let pass : turns_at (turns_of t) places ≡ these = turns_pass (asks outstanding) (turns_of t) in
      let all : List Budget = (ledger_of t known idle).budgets in
      let asked : List ℕ = min_rate_reserves t.flows known_reserves in
      let kept : List ℕ = min_rate_reserves t.flows reserves in
      let limited : Ledger = record { budgets = all; allowances = first_limits allowed kept } in
      ap (λ bs. flow_bytes (first_of outstanding (record { budgets = bs; allowances = known }) asked (turns_at (turns_of t) places)) place)
      (idle_budgets t.channels idle) ∙
      ap (λ ts. flow_bytes (first_of outstanding (ledger_of t known idle) asked ts) place) pass ∙
      ap (λ plan. flow_bytes plan place)
      (first_same outstanding (turns_of t) all (first_limits known asked) (first_limits allowed kept)
      (limits_agree these known allowed asked kept
      (rates_agree t.flows these known allowed known_reserves reserves
      (subst (λ ts. AgreeOn ts known allowed known_reserves reserves) pass agreed)))) ∙
      asked_bytes outstanding (plan_of outstanding limited (turns_of t)) place (first_idle outstanding limited (turns_of t))

  pub reserves_of_round : (left : List ℕ) →
      left ≡
      (first_pass (rows_from t.channels 0 (turns_of t)) outstanding askers (partial_of (cleared old idle) known) known_reserves).reserves →
      (place : ℕ) →
      slice_index left place ≡ slice_index known_reserves place - reserved_for t outstanding allowed reserves idle place
  reserves_of_round left are place =
      let rows : List TurnRow = rows_from t.channels 0 (turns_of t) in
      ap (λ rs. slice_index rs place)
      (are ∙ ap₂ (λ ps p. (first_pass rows outstanding ps p known_reserves).reserves) ask (cleared_is t known old idle own)) ∙
      reserves_of_passes t outstanding places known_reserves start lawful own_start flows (askers_inside t outstanding) place ∙
      ap (λ n. slice_index known_reserves place - n) (first_bytes place)
