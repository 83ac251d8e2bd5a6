-- Plans by rows: what a turn and what all who ask come to.
use Rattle.std.proofs.Common.{◌≡◌, ℕ, zero, suc, ◌+◌, ◌-◌, ◌*◌, ◌<◌, ◌≤◌, Bool, List, [], ◌∷◌, ◌++◌, length, map, set, zip, get_or, Option, Some, None, option_map, slice_get, refl, sym, ap, ap₂, ◌∙◌, subst, inl, inr, append_assoc, append-nil, arith}
use Rattle.std.specs.Prelude.{sum, slice_index, slice_index_or, option_to_list}
use Rattle.std.specs.List.{AllByRecursion, cons_option}
use Rattle.std.proofs.lemmas.Bool.{cases_Bool}
use Rattle.std.proofs.lemmas.Nat.{mul-le}
use Rattle.std.proofs.lemmas.List.{length-map, set-get_or}
use Rattle.std.proofs.lemmas.Option.{slice_get_read}
use Rattle.us_slots.specs.Times.{minislot_ticks}
use Rattle.us_flows.specs.declared.channels.Channel.{Channel}
use Rattle.us_flows.specs.Tables.{Tables, map_len}
use Rattle.us_flows.specs.Clusters.{Turn, IsTurnIn, turns_of, words_of}
use Rattle.us_flows.specs.Lawful.{AreTables, IsChannel}
use Rattle.us_flows.proofs.TurnLaws.{turns_of-turns}
use Rattle.us_split.specs.declared.turn_rows.Seat.{Seat}
use Rattle.us_split.specs.Plans.{IsIdle, Planned, at_most, after_turn, plan_of}
use Rattle.us_split.specs.Claims.{Claim, claim_on}
use Rattle.us_split.specs.Asking.{asking_in, claims_at, numbers_of, places_from, turns_at}
use Rattle.us_split.specs.PartialPlans.{Asker, ChannelPlan, PartialPlan, idle_plan, ledger_in, planned_further, planned_in, with_turn}
use Rattle.us_split.specs.TurnRows.{IsPlanning, IsRowWithin, TurnRow, cleared, partial_of, put_from, row_of, rows_from, shares_at, shares_in, with_row, with_row_if, with_rows}
use Rattle.us_split.proofs.AskingLaws.{option_before}
use Rattle.us_split.proofs.ByPlaceLemmas.{nothing_put}
use Rattle.us_split.proofs.ClaimLemmas.{all_at}
use Rattle.us_split.proofs.PartialPlanLemmas.{ledger_after, none_divided, share-le-sum}
use Rattle.us_split.proofs.TurnRowLemmas.{row_planned, row_there, rows_inside, rows_known, rows_length}

-- A turn.

-- where there is no share nothing is planned
pub none_put : (asker : Asker) (position : ℕ) (seats : List Seat) (shares : List ℕ) (cs : List ChannelPlan) → sum shares ≡ 0 →
    cs ≡ put_from asker position seats shares cs
none_put asker position [] shares cs none = refl
none_put asker position (seat ∷ seats) shares cs none =
    none_put asker (position + 1) seats shares cs none ∙
    ap (put_from asker (position + 1) seats shares)
    (nothing_put asker position seat.sid (slice_index shares position) seat.place cs
    (omega (arith, share-le-sum shares position, none)))

pub none_spent : (allowances : List (Option ℕ)) (place bytes : ℕ) → bytes ≡ 0 →
    allowances ≡ set allowances place (option_map (λ most. most - bytes) (slice_index_or allowances place None))
none_spent allowances place bytes none =
    sym (ap (set allowances place) (same (slice_index_or allowances place None)) ∙ set-get_or allowances place None)
  where
    same : (o : Option ℕ) → option_map (λ most. most - bytes) o ≡ o
    same None = refl
    same (Some most) = let all : most - bytes ≡ most = omega arith in ap Some all

pub nothing_planned : (row : TurnRow) (bytes : ℕ) (cs : List ChannelPlan) (allowances : List (Option ℕ)) →
    sum (shares_in row bytes (partial_of cs allowances)) ≡ 0 →
    partial_of cs allowances ≡ with_row row bytes (partial_of cs allowances)
unfolding with_row
nothing_planned row bytes cs allowances empty =
    let shares : List ℕ = shares_in row bytes (partial_of cs allowances) in
    ap₂ partial_of (none_put row.asker 0 row.seats shares cs empty)
    (none_spent allowances row.asker.claimant.place (sum shares) empty)

pub nothing_asked : (row : TurnRow) (bytes : ℕ) (cs : List ChannelPlan) (allowances : List (Option ℕ)) →
    at_most (slice_index_or allowances row.asker.claimant.place None) bytes ≡ 0 →
    partial_of cs allowances ≡ with_row row bytes (partial_of cs allowances)
nothing_asked row bytes cs allowances none =
    nothing_planned row bytes cs allowances (ap (λ n. sum (shares_at row n cs)) none ∙ none_divided _)

-- what its shares come to
pub shares_planned : (row : TurnRow) (bytes demand total : ℕ) (shares : List ℕ) (old new : List ChannelPlan)
    (allowances left : List (Option ℕ)) →
    demand ≡ at_most (slice_index_or allowances row.asker.claimant.place None) bytes →
    shares ≡ shares_at row demand old → new ≡ put_from row.asker 0 row.seats shares old → total ≡ sum shares →
    left ≡ set allowances row.asker.claimant.place
    (option_map (λ most. most - total) (slice_index_or allowances row.asker.claimant.place None)) →
    partial_of new left ≡ with_row row bytes (partial_of old allowances)
unfolding with_row
shares_planned row bytes demand total shares old new allowances left asks are put all less =
    let place : ℕ = row.asker.claimant.place in
    let same : shares ≡ shares_in row bytes (partial_of old allowances) = are ∙ ap (λ n. shares_at row n old) asks in
    ap₂ partial_of (put ∙ ap (λ ss. put_from row.asker 0 row.seats ss old) same)
    (less ∙
    ap (λ n. set allowances place (option_map (λ most. most - n) (slice_index_or allowances place None)))
    (all ∙ ap sum same))

-- one turn more
pub one_row_more : (rows : List TurnRow) (outstanding places : List ℕ) (place bytes : ℕ) (row : TurnRow)
    (old new : PartialPlan) → place < length rows → row ≡ get_or rows place row →
    bytes ≡ slice_index outstanding row.asker.claimant.cluster → new ≡ with_row row bytes old →
    with_rows rows outstanding places new ≡ with_rows rows outstanding (place ∷ places) old
one_row_more rows outstanding places place bytes row old new within at asked is =
    let here : slice_get rows place ≡ Some row = slice_get_read rows (length rows) place row refl within at in
    ap (with_rows rows outstanding places)
    (is ∙ ap (λ n. with_row row n old) asked ∙ sym (ap (λ found. with_row_if found outstanding old) here))

-- All who ask.

pub some_at : {X : Type 0} (xs : List X) (i : ℕ) → i < length xs → (x : X) × (slice_get xs i ≡ Some x)
some_at [] i within = absurd (omega (arith, within))
some_at (x ∷ xs) zero within = (x, refl)
some_at (x ∷ xs) (suc i) within = some_at xs i (omega (arith, within))

no_claims : (cs : List ChannelPlan) → map (λ c. c.claims) cs ≡ map (λ c. c.claims ++ []) cs
no_claims [] = refl
no_claims (c ∷ cs) = ap₂ (λ x xs. x ∷ xs) (sym (append-nil c.claims)) (no_claims cs)

module _ (place : ℕ) (planned : Planned) (places : List ℕ) (plan : List Planned) where
  pub claims_of_more : (cs : List ChannelPlan) →
      map (λ c. c.claims ++ claims_at c.channel places plan) (map (with_turn place planned) cs) ≡
      map (λ c. c.claims ++ claims_at c.channel (place ∷ places) (planned ∷ plan)) cs
  claims_of_more [] = refl
  claims_of_more (c ∷ cs) =
      ap₂ (λ x xs. x ∷ xs)
      (append_assoc c.claims (option_to_list (claim_on c.channel place planned)) (claims_at c.channel places plan) ∙
      ap (λ more. c.claims ++ more) (sym (option_before (claim_on c.channel place planned) (claims_at c.channel places plan))))
      (claims_of_more cs)

  pub claims_later : (partial : PartialPlan) →
      map (λ c. c.claims ++ claims_at c.channel places plan) (planned_further place planned partial).channels ≡
      map (λ c. c.claims ++ claims_at c.channel (place ∷ places) (planned ∷ plan)) partial.channels
  unfolding planned_further
  claims_later partial = claims_of_more partial.channels

pub channels_of_turn : (place : ℕ) (planned : Planned) (cs : List ChannelPlan) →
    map (λ c. c.channel) (map (with_turn place planned) cs) ≡ map (λ c. c.channel) cs
channels_of_turn place planned [] = refl
channels_of_turn place planned (c ∷ cs) = ap (λ xs. c.channel ∷ xs) (channels_of_turn place planned cs)

channels_stay : (place : ℕ) (planned : Planned) (partial : PartialPlan) →
    map (λ c. c.channel) (planned_further place planned partial).channels ≡ map (λ c. c.channel) partial.channels
unfolding planned_further
channels_stay place planned partial = channels_of_turn place planned partial.channels

pub claims_of_rows : (t : Tables) (outstanding places : List ℕ) (partial : PartialPlan) → AreTables t →
    map (λ c. c.channel) partial.channels ≡ t.channels → AllByRecursion (λ place. place < length (turns_of t)) places →
    map (λ c. c.claims) (with_rows (rows_from t.channels 0 (turns_of t)) outstanding places partial).channels ≡
    map (λ c. c.claims ++ claims_at c.channel places (plan_of outstanding (ledger_in partial) (turns_at (turns_of t) places)))
    partial.channels
unfolding plan_of
claims_of_rows t outstanding [] partial lawful same inside = no_claims partial.channels
claims_of_rows t outstanding (place ∷ places) partial lawful same inside =
    let turns : List Turn = turns_of t in
    let rows : List TurnRow = rows_from t.channels 0 turns in
    let found = some_at turns place inside.0 in
    let turn : Turn = found.0 in
    let is : IsTurnIn t turn = all_at (IsTurnIn t) turns place turn (turns_of-turns t) found.1 in
    let planned : Planned = planned_in outstanding partial turn in
    let next : PartialPlan = planned_further place planned partial in
    let start : 0 + place ≡ place = omega arith in
    let row : slice_get rows place ≡ Some (row_of t.channels place turn) =
    row_there t.channels 0 place turns ∙ ap₂ (λ n o. option_map (row_of t.channels n) o) start found.1 in
    let step : with_row_if (slice_get rows place) outstanding partial ≡ next =
    ap (λ o. with_row_if o outstanding partial) row ∙ row_planned t outstanding place turn partial lawful is same in
    let rest : turns_at turns (place ∷ places) ≡ turn ∷ turns_at turns places =
    ap (λ o. cons_option o (turns_at turns places)) found.1 in
    ap (λ p. map (λ c. c.claims) (with_rows rows outstanding places p).channels) step ∙
    claims_of_rows t outstanding places next lawful (channels_stay place planned partial ∙ same) inside.1 ∙
    ap (λ l. map (λ c. c.claims ++ claims_at c.channel places (plan_of outstanding l (turns_at turns places))) next.channels)
    (ledger_after place planned partial) ∙
    claims_later place planned places
    (plan_of outstanding (after_turn (ledger_in partial) planned) (turns_at turns places)) partial ∙
    ap (λ ts. map (λ c. c.claims ++ claims_at c.channel (place ∷ places) (plan_of outstanding (ledger_in partial) ts)) partial.channels)
    (sym rest)

-- they have places among all turns
places_inside : (passes : ℕ → Bool) (start most : ℕ) (numbers : List ℕ) → start + length numbers ≤ most →
    AllByRecursion (λ place. place < most) (places_from passes start numbers)
unfolding places_from
places_inside passes start most [] few = tt
places_inside passes start most (number ∷ numbers) few =
    let more : AllByRecursion (λ place. place < most) (places_from passes (start + 1) numbers) =
    places_inside passes (start + 1) most numbers (omega (arith, few)) in
    elim (cases_Bool (passes number)) [
      | inl t ↦ rw t (omega (arith, few), more)
      | inr f ↦ rw f more
    ]

pub askers_inside : (t : Tables) (outstanding : List ℕ) →
    AllByRecursion (λ place. place < length (turns_of t)) (asking_in t outstanding)
askers_inside t outstanding =
    places_inside _ 0 (length (turns_of t)) (numbers_of (turns_of t))
    (omega (arith, length-map (turns_of t) (λ (turn : Turn). turn.number)))

-- Before the first turn.

abbrev pub made : Channel × ℕ → ChannelPlan
made pair = record { channel = pair.0; slots = pair.1; claims = [] }

cleared_made : (cs : List ChannelPlan) (idle : List ℕ) → cleared cs idle ≡ map made (zip (map (λ c. c.channel) cs) idle)
cleared_made [] idle = refl
cleared_made (c ∷ cs) [] = refl
cleared_made (c ∷ cs) (slots ∷ idle) =
    ap (λ xs. made (c.channel, slots) ∷ xs) (cleared_made cs idle)

pub cleared_channels : (cs : List ChannelPlan) (idle : List ℕ) → length idle ≡ length cs →
    map (λ c. c.channel) (cleared cs idle) ≡ map (λ c. c.channel) cs
cleared_channels [] idle same = refl
cleared_channels (c ∷ cs) [] same = absurd (omega (arith, same))
cleared_channels (c ∷ cs) (slots ∷ idle) same =
    ap (λ xs. c.channel ∷ xs) (cleared_channels cs idle (omega (arith, same)))

pub cleared_is : (t : Tables) (allowances : List (Option ℕ)) (cs : List ChannelPlan) (idle : List ℕ) →
    map (λ c. c.channel) cs ≡ t.channels → partial_of (cleared cs idle) allowances ≡ idle_plan t allowances idle
cleared_is t allowances cs idle same =
    ap (λ xs. partial_of xs allowances) (cleared_made cs idle ∙ ap (λ channels. map made (zip channels idle)) same)

-- so many minislots are no more than a MAP has
within_maps : (t : Tables) (channels : List Channel) (idle : List ℕ) → t.round_ticks ≤ 4096 →
    AllByRecursion (IsChannel t) channels →
    ((place : ℕ) (c : Channel) → slice_get channels place ≡ Some c → slice_index idle place ≤ map_len t c) →
    AllByRecursion (λ pair. pair.1 * minislot_ticks pair.0.bursts.time ≤ 4096) (zip channels idle)
within_maps t [] idle short all within = tt
within_maps t (c ∷ channels) [] short all within = tt
within_maps t (c ∷ channels) (slots ∷ idle) short all within =
    let ticks : ℕ = minislot_ticks c.bursts.time in
    let few : slots ≤ map_len t c = within 0 c refl in
    let product : slots * ticks ≤ map_len t c * ticks = mul-le slots ticks (map_len t c) ticks few (omega arith) in
    (omega (arith, product, all.0.whole, short), within_maps t channels idle short all.1 (λ place. within (suc place)))

within_plans : (cs : List ChannelPlan) (idle : List ℕ) →
    AllByRecursion (λ pair. pair.1 * minislot_ticks pair.0.bursts.time ≤ 4096) (zip (map (λ c. c.channel) cs) idle) →
    AllByRecursion (λ pair. pair.1 * minislot_ticks pair.0.channel.bursts.time ≤ 4096) (zip cs idle)
within_plans [] idle all = tt
within_plans (c ∷ cs) [] all = tt
within_plans (c ∷ cs) (slots ∷ idle) all = (all.0, within_plans cs idle all.1)

pub idle_within : (t : Tables) (cs : List ChannelPlan) (idle : List ℕ) → AreTables t → IsIdle t idle →
    map (λ c. c.channel) cs ≡ t.channels →
    AllByRecursion (λ pair. pair.1 * minislot_ticks pair.0.channel.bursts.time ≤ 4096) (zip cs idle)
idle_within t cs idle lawful is same =
    within_plans cs idle
    (subst (λ channels. AllByRecursion (λ pair. pair.1 * minislot_ticks pair.0.bursts.time ≤ 4096) (zip channels idle)) (sym same)
    (within_maps t t.channels idle lawful.round_ticks.1 lawful.channels is.within))

-- The claims of a round.

pub idle_claims_by : (f : Channel → List Claim) (channels : List Channel) (idle : List ℕ) → length idle ≡ length channels →
    map (λ (c : ChannelPlan). c.claims ++ f c.channel) (map made (zip channels idle)) ≡ map f channels
idle_claims_by f [] idle same = refl
idle_claims_by f (c ∷ channels) [] same = absurd (omega (arith, same))
idle_claims_by f (c ∷ channels) (slots ∷ idle) same =
    ap (λ xs. f c ∷ xs) (idle_claims_by f channels idle (omega (arith, same)))

-- A planner's channels and rows.

pub rows_ready : (t : Tables) (rows : List TurnRow) (flows channels : ℕ) → AreTables t →
    rows ≡ rows_from t.channels 0 (turns_of t) → flows ≡ length t.flows → channels ≡ length t.channels →
    AllByRecursion (IsRowWithin flows channels) rows
rows_ready t rows flows channels lawful are all_flows all_channels =
    subst (λ rs. AllByRecursion (IsRowWithin flows channels) rs) (sym are)
    (subst (λ n. AllByRecursion (IsRowWithin n channels) (rows_from t.channels 0 (turns_of t))) (sym all_flows)
    (subst (λ n. AllByRecursion (IsRowWithin (length t.flows) n) (rows_from t.channels 0 (turns_of t))) (sym all_channels)
    (rows_inside t 0 (turns_of t) lawful (turns_of-turns t))))

pub words_ready : (t : Tables) (rows : List TurnRow) (words : ℕ) → rows ≡ rows_from t.channels 0 (turns_of t) →
    words ≡ length (words_of t) → AllByRecursion (λ row. row.asker.claimant.cluster < words) rows
words_ready t rows words are all =
    subst (λ rs. AllByRecursion (λ row. row.asker.claimant.cluster < words) rs) (sym are)
    (subst (λ n. AllByRecursion (λ row. row.asker.claimant.cluster < n) (rows_from t.channels 0 (turns_of t))) (sym all)
    (rows_known t 0 (turns_of t) (turns_of-turns t)))

pub askers_ready : (t : Tables) (rows : List TurnRow) (outstanding askers : List ℕ) →
    rows ≡ rows_from t.channels 0 (turns_of t) → askers ≡ asking_in t outstanding →
    AllByRecursion (λ place. place < length rows) askers
askers_ready t rows outstanding askers are asks =
    subst (λ places. AllByRecursion (λ place. place < length rows) places) (sym asks)
    (subst (λ n. AllByRecursion (λ place. place < n) (asking_in t outstanding))
    (sym (ap length are ∙ rows_length t.channels 0 (turns_of t)))
    (askers_inside t outstanding))

pub own_length : (t : Tables) (cs : List ChannelPlan) → map (λ c. c.channel) cs ≡ t.channels → length cs ≡ length t.channels
own_length t cs own = sym (length-map cs (λ (c : ChannelPlan). c.channel)) ∙ ap length own

-- what is so by its own tables is so by the tables that it tells
pub told : (t s : Tables) (rows : List TurnRow) (channels : List ChannelPlan) → t ≡ s → IsPlanning t rows channels →
    IsPlanning s rows channels
told t s rows channels same is = subst (λ x. IsPlanning x rows channels) same is

-- a planner stays one of its tables
pub planning_after : (t s : Tables) (rows : List TurnRow) (idle : List ℕ) (before old start new after : List ChannelPlan) →
    t ≡ s → IsPlanning t rows before → IsIdle s idle → old ≡ before → start ≡ cleared old idle →
    map (λ c. c.channel) new ≡ map (λ c. c.channel) start → after ≡ new → IsPlanning t rows after
planning_after t s rows idle before old start new after same is few opened begun kept closed =
    let idle_is : IsIdle t idle = subst (λ x. IsIdle x idle) (sym same) few in
    let own : map (λ c. c.channel) old ≡ t.channels = ap (λ (cs : List ChannelPlan). map (λ c. c.channel) cs) opened ∙ is.own in
    record {
      lawful = is.lawful;
      turns = is.turns;
      own = ap (λ (cs : List ChannelPlan). map (λ c. c.channel) cs) closed ∙ kept ∙
          ap (λ (cs : List ChannelPlan). map (λ c. c.channel) cs) begun ∙
          cleared_channels old idle (idle_is.one_each ∙ sym (own_length t old own)) ∙ own;
    }
