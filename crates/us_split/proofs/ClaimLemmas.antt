-- The claims of a plan: what holds of each, and that all shares are found among them.
use Rattle.std.proofs.Common.{◌≡◌, ◌≢◌, ◌⊎◌, ℕ, zero, suc, ◌+◌, ◌==◌, ◌<◌, ◌≤◌, ◌&&◌, Bool, true, false, List, [], ◌∷◌, ◌++◌, length, map, Option, Some, None, slice_get, option_map, refl, sym, ap, ap₂, ◌∙◌, subst, inl, inr, eq-eqb, ne_eqb, arith}
use Rattle.std.specs.Prelude.{find, position, slice_index, slice_index_or, option_and_then, option_to_list}
use Rattle.std.specs.List.{AllByRecursion}
use Rattle.std.proofs.lemmas.Bool.{cases_Bool, cases_eq, cases_lt, eqb-true}
use Rattle.std.proofs.lemmas.List.{get_or_past}
use Rattle.std.proofs.lemmas.List.Elements.{All-from_recursion}
use Rattle.std.proofs.lemmas.Option.{slice_get_within, get_or_from_slice_get}
use Rattle.std.specs.Int.{IsInRange}
use Rattle.us_slots.specs.Bursts.{IsChannelBursts, grant_cost}
use Rattle.us_slots.proofs.CostLaws.{bytes_cost_minislots}
use Rattle.us_flows.specs.declared.channels.Channel.{Channel}
use Rattle.us_flows.specs.Tables.{Tables, has_channel, header_bytes}
use Rattle.us_flows.specs.Clusters.{Turn, IsTurnIn}
use Rattle.us_flows.specs.Lawful.{AreApart, AreTables, IsChannel, IsFlow}
use Rattle.us_flows.proofs.TurnLaws.{turns_of-turns}
use Rattle.us_flows.proofs.TurnLemmas.{all-append}
use Rattle.us_split.specs.Plans.{IsIdle, Planned, plan_for}
use Rattle.us_split.specs.PlanLaws.{AreBursts}
use Rattle.us_split.specs.Claims.{AreClaims, Claim, IsClaimOn, all_claims, claim_at, claim_on, claimant_of, claims_from, claims_on, is_at, share_of, share_or}
use Rattle.us_split.proofs.ChannelShareLemmas.{first_place, later_place}
use Rattle.us_split.proofs.TwoPassLaws.{plan_for-lawful, plan_for-one_each, plan_for-turns}

-- what holds of all items holds of the one at a place
pub all_at : {X : Type 0} (P : X → Type 0) (xs : List X) (i : ℕ) (x : X) → AllByRecursion P xs → slice_get xs i ≡ Some x → P x
all_at P xs i x all is =
    subst P (get_or_from_slice_get xs i x x is) (All-from_recursion P xs all i x (slice_get_within xs i x is))

-- The turns of a plan: they are of the tables, and have a share for each of their flow's channels.

record IsPlanned (t : Tables) (planned : Planned) : Type 0 where
  turn : IsTurnIn t planned.turn
  bursts : AreBursts planned
  one_each : length planned.shares ≡ length planned.turn.cluster.flow.channels

all_planned : (t : Tables) (plan : List Planned) → AllByRecursion (IsTurnIn t) (map (λ planned. planned.turn) plan) →
    AllByRecursion AreBursts plan →
    AllByRecursion (λ planned. length planned.shares ≡ length planned.turn.cluster.flow.channels) plan →
    AllByRecursion (IsPlanned t) plan
all_planned t [] turns bursts long = tt
all_planned t (planned ∷ plan) turns bursts long = (
  record { turn = turns.0; bursts = bursts.0; one_each = long.0 },
  all_planned t plan turns.1 bursts.1 long.1,
)

plan_for-planned : (t : Tables) (outstanding : List ℕ) (allowances : List (Option ℕ)) (reserves idle : List ℕ) → AreTables t →
    IsIdle t idle → AllByRecursion (IsPlanned t) (plan_for t outstanding allowances reserves idle)
plan_for-planned t outstanding allowances reserves idle lawful is =
    all_planned t (plan_for t outstanding allowances reserves idle)
    (subst (AllByRecursion (IsTurnIn t)) (sym (plan_for-turns t outstanding allowances reserves idle)) (turns_of-turns t))
    (plan_for-lawful t outstanding allowances reserves idle lawful is).bursts
    (plan_for-one_each t outstanding allowances reserves idle)

pub flow_of : (t : Tables) (turn : Turn) → AreTables t → IsTurnIn t turn → IsFlow t turn.cluster.flow
flow_of t turn lawful is = all_at (IsFlow t) t.flows turn.place turn.cluster.flow lawful.flows is.flow

-- What holds of each claim.

small_sid : (sids : List ℕ) (k : ℕ) → AllByRecursion (IsInRange 1 15871) sids → slice_index sids k < 16384
small_sid sids k all = elim (cases_lt k (length sids)) [
  | inl within ↦ omega (arith, (All-from_recursion (IsInRange 1 15871) sids all k 0 within).1)
  | inr past ↦ omega (arith, get_or_past sids k 0 past)
]

burst_of : (planned : Planned) (k : ℕ) → AreBursts planned → slice_index planned.shares k ≢ 0 →
    slice_index planned.shares k + header_bytes planned.turn.cluster.flow ≤ 98304
burst_of planned k all some = elim (cases_lt k (length planned.shares)) [
  | inl within ↦ elim (All-from_recursion (λ share. (share ≡ 0) ⊎ (share + header_bytes planned.turn.cluster.flow ≤ 98304)) planned.shares all k 0 within) [
    | inl none ↦ absurd (some none)
    | inr burst ↦ burst
  ]
  | inr past ↦ absurd (some (get_or_past planned.shares k 0 past))
]

claim_lawful : (t : Tables) (c : Channel) (place : ℕ) (planned : Planned) (found : Option ℕ) → IsChannelBursts c.bursts → AreTables t →
    IsPlanned t planned → AllByRecursion (IsClaimOn c) (option_to_list (option_and_then (claim_at c place planned) found))
claim_lawful t c place planned None bursts lawful is = tt
claim_lawful t c place planned (Some k) bursts lawful is = elim (cases_eq (slice_index planned.shares k) 0) [
  | inl none ↦ rw (eq-eqb (slice_index planned.shares k) 0 none) tt
  | inr some ↦
      let sids = all_at (λ sids. (length sids ≡ length planned.turn.cluster.flow.channels) × AllByRecursion (IsInRange 1 15871) sids)
      planned.turn.cluster.flow.clusters planned.turn.cluster.list planned.turn.cluster.sids
      (flow_of t planned.turn lawful is.turn).sids is.turn.sids in
      let above : 1 ≤ slice_index planned.shares k = elim (cases_lt 0 (slice_index planned.shares k)) [
        | inl more ↦ more
        | inr less ↦ absurd (some (omega arith))
      ] in
      rw (ne_eqb (slice_index planned.shares k) 0 some) (
        record {
          some = above;
          minislots = bytes_cost_minislots c.bursts (slice_index planned.shares k + header_bytes planned.turn.cluster.flow) bursts (omega arith);
          burst = burst_of planned k is.bursts some;
          sid = small_sid planned.turn.cluster.sids k sids.1;
          slots = refl;
          iuc = refl;
        },
        tt,
      )
]

claims_lawful : (t : Tables) (c : Channel) (place : ℕ) (plan : List Planned) → IsChannelBursts c.bursts → AreTables t →
    AllByRecursion (IsPlanned t) plan → AllByRecursion (IsClaimOn c) (claims_from c place plan)
unfolding claims_from
claims_lawful t c place [] bursts lawful all = tt
claims_lawful t c place (planned ∷ plan) bursts lawful all =
    all-append (IsClaimOn c) (option_to_list (claim_on c place planned)) (claims_from c (place + 1) plan)
    (claim_lawful t c place planned (position (λ id. id == c.id) planned.turn.cluster.flow.channels) bursts lawful all.0)
    (claims_lawful t c (place + 1) plan bursts lawful all.1)

channels_lawful : (t : Tables) (plan : List Planned) (cs : List Channel) → AllByRecursion (IsChannel t) cs → AreTables t →
    AllByRecursion (IsPlanned t) plan → AllByRecursion (λ c. AllByRecursion (IsClaimOn c) (claims_on c plan)) cs
channels_lawful t plan [] are lawful all = tt
channels_lawful t plan (c ∷ cs) are lawful all =
    (claims_lawful t c 0 plan are.0.bursts lawful all, channels_lawful t plan cs are.1 lawful all)

pub plan_for-claims : (t : Tables) (outstanding : List ℕ) (allowances : List (Option ℕ)) (reserves idle : List ℕ) → AreTables t →
    IsIdle t idle → AreClaims t (plan_for t outstanding allowances reserves idle)
plan_for-claims t outstanding allowances reserves idle lawful is = record {
  each = channels_lawful t (plan_for t outstanding allowances reserves idle) t.channels lawful.channels lawful
      (plan_for-planned t outstanding allowances reserves idle lawful is);
}

-- A claim has the share of its turn.

-- the share of a turn at a place
abbrev share_there : List Planned → ℕ → ℕ → ℕ
share_there plan k position = slice_index (slice_index_or (map (λ planned. planned.shares) plan) k []) position

record IsRight (place : ℕ) (plan : List Planned) (claim : Claim) : Type 0 where
  k : ℕ
  turn : claim.turn ≡ place + k
  share : claim.share ≡ share_there plan k claim.position

right_first : (c : Channel) (place : ℕ) (planned : Planned) (plan : List Planned) (found : Option ℕ) →
    AllByRecursion (IsRight place (planned ∷ plan)) (option_to_list (option_and_then (claim_at c place planned) found))
right_first c place planned plan None = tt
right_first c place planned plan (Some k) = elim (cases_Bool (slice_index planned.shares k == 0)) [
  | inl none ↦ rw none tt
  | inr some ↦ rw some (record { k = 0; turn = omega arith; share = refl }, tt)
]

right_later : (place : ℕ) (planned : Planned) (plan : List Planned) (claims : List Claim) →
    AllByRecursion (IsRight (place + 1) plan) claims → AllByRecursion (IsRight place (planned ∷ plan)) claims
right_later place planned plan [] all = tt
right_later place planned plan (claim ∷ claims) all = (
  record { k = suc all.0.k; turn = omega (arith, all.0.turn); share = all.0.share },
  right_later place planned plan claims all.1,
)

all_right : (c : Channel) (place : ℕ) (plan : List Planned) → AllByRecursion (IsRight place plan) (claims_from c place plan)
unfolding claims_from
all_right c place [] = tt
all_right c place (planned ∷ plan) =
    all-append (IsRight place (planned ∷ plan)) (option_to_list (claim_on c place planned)) (claims_from c (place + 1) plan)
    (right_first c place planned plan (position (λ id. id == c.id) planned.turn.cluster.flow.channels))
    (right_later place planned plan (claims_from c (place + 1) plan) (all_right c (place + 1) plan))

both_true : (a b : Bool) → (a && b) ≡ true → (a ≡ true) × (b ≡ true)
both_true true true is = (refl, refl)
both_true true false is = let no : false ≡ true = is in cc
both_true false b is = let no : false ≡ true = is in cc

found_right : (plan : List Planned) (turn position : ℕ) (claims : List Claim) (claim : Claim) →
    AllByRecursion (IsRight 0 plan) claims → find (is_at turn position) claims ≡ Some claim →
    claim.share ≡ share_there plan turn position
found_right plan turn position [] claim all at = let no : None ≡ Some claim = at in cc
found_right plan turn position (x ∷ xs) claim all at = elim (cases_Bool (is_at turn position x)) [
  | inl here ↦
      let found : Some x ≡ Some claim = rw here at at in
      let same : x ≡ claim = cc in
      let both = both_true (x.turn == turn) (x.position == position) here in
      let k : all.0.k ≡ turn = omega (arith, all.0.turn, eqb-true x.turn turn both.0) in
      ap (λ x. x.share) (sym same) ∙ all.0.share ∙
      ap₂ (λ k p. share_there plan k p) k (eqb-true x.position position both.1)
  | inr other ↦ found_right plan turn position xs claim all.1 (rw other at at)
]

-- So what is looked up is the share, or there is no claim of it on any channel.

abbrev no_claim : List Planned → ℕ → ℕ → Channel → Type 0
no_claim plan turn position c = find (is_at turn position) (claims_on c plan) ≡ None

share_or_none : (plan : List Planned) (turn position : ℕ) (cs : List Channel) →
    (share_of (map (λ c. claims_on c plan) cs) turn position ≡ share_there plan turn position)
    ⊎ ((share_of (map (λ c. claims_on c plan) cs) turn position ≡ 0) × AllByRecursion (no_claim plan turn position) cs)
share_or_none plan turn position [] = inr (refl, tt)
share_or_none plan turn position (c ∷ cs) =
    by (find (is_at turn position) (claims_on c plan)) refl (share_or_none plan turn position cs)
  where
    by : (found : Option Claim) → find (is_at turn position) (claims_on c plan) ≡ found →
        ((share_of (map (λ c. claims_on c plan) cs) turn position ≡ share_there plan turn position)
        ⊎ ((share_of (map (λ c. claims_on c plan) cs) turn position ≡ 0) × AllByRecursion (no_claim plan turn position) cs)) →
        (share_or found (share_of (map (λ c. claims_on c plan) cs) turn position) ≡ share_there plan turn position)
        ⊎ ((share_or found (share_of (map (λ c. claims_on c plan) cs) turn position) ≡ 0)
        × ((find (is_at turn position) (claims_on c plan) ≡ None) × AllByRecursion (no_claim plan turn position) cs))
    by (Some claim) at rest = inl (found_right plan turn position (claims_on c plan) claim (all_right c 0 plan) at)
    by None at rest = elim rest [
      | inl is ↦ inl is
      | inr none ↦ inr (none.0, (at, none.1))
    ]

-- Where there is a share, there is a claim of it.

none_parts : (p : Claim → Bool) (xs ys : List Claim) → find p (xs ++ ys) ≡ None → (find p xs ≡ None) × (find p ys ≡ None)
none_parts p [] ys none = (refl, none)
none_parts p (x ∷ xs) ys none = elim (cases_Bool (p x)) [
  | inl here ↦ let no : Some x ≡ None = rw here at none in cc
  | inr other ↦
      let parts = none_parts p xs ys (rw other at none) in
      (rw other parts.0, parts.1)
]

claim_there : (c : Channel) (place k position : ℕ) (plan : List Planned) (planned : Planned) (claim : Claim) →
    slice_get plan k ≡ Some planned → claim_on c (place + k) planned ≡ Some claim →
    is_at (place + k) position claim ≡ true → find (is_at (place + k) position) (claims_from c place plan) ≢ None
unfolding claims_from
claim_there c place k position [] planned claim at is here none = let no : None ≡ Some planned = at in cc
claim_there c place zero position (x ∷ plan) planned claim at is here none =
    let found : Some x ≡ Some planned = at in
    let same : x ≡ planned = cc in
    let start : place + 0 ≡ place = omega arith in
    let own : claim_on c place x ≡ Some claim = ap₂ (λ n p. claim_on c n p) (sym start) same ∙ is in
    let parts = none_parts (is_at (place + 0) position) (option_to_list (claim_on c place x)) (claims_from c (place + 1) plan) none in
    let no : find (is_at (place + 0) position) (claim ∷ []) ≡ None = rw own at parts.0 in
    let never : Some claim ≡ None = rw here at no in
    cc
claim_there c place (suc k) position (x ∷ plan) planned claim at is here none =
    let next : place + suc k ≡ place + 1 + k = omega arith in
    let parts = none_parts (is_at (place + suc k) position) (option_to_list (claim_on c place x)) (claims_from c (place + 1) plan) none in
    claim_there c (place + 1) k position plan planned claim at (rw next at is) (rw next at here) (rw next at parts.1)

-- the channel at a position has that position, where all are apart
other_after : (id : ℕ) (ids : List ℕ) (k : ℕ) → AllByRecursion (λ y. id ≢ y) ids → k < length ids → id ≢ slice_index ids k
other_after id [] k all within = absurd (omega arith)
other_after id (x ∷ xs) zero all within = all.0
other_after id (x ∷ xs) (suc k) all within = other_after id xs k all.1 (omega arith)

position_at : (ids : List ℕ) (k : ℕ) → AreApart ids → k < length ids →
    position (λ id. id == slice_index ids k) ids ≡ Some k
position_at [] k apart within = absurd (omega arith)
position_at (x ∷ xs) zero apart within = first_place (λ id. id == x) x xs (eq-eqb x x refl)
position_at (x ∷ xs) (suc k) apart within =
    later_place (λ id. id == slice_index xs k) x xs (ne_eqb x (slice_index xs k) (other_after x xs k apart.0 (omega arith))) ∙
    ap (option_map suc) (position_at xs k apart.1 (omega arith))

-- a channel of the table that has an id, if one has
no_such : (P : Channel → Type 0) (id : ℕ) (cs : List Channel) → has_channel cs id ≡ true → AllByRecursion P cs →
    (c : Channel) × (c.id ≡ id) × P c
no_such P id [] is all = let no : false ≡ true = is in cc
no_such P id (c ∷ cs) is all = elim (cases_eq c.id id) [
  | inl same ↦ (c, same, all.0)
  | inr other ↦ no_such P id cs (rw (ne_eqb c.id id other) at is) all.1
]

shares_at : (plan : List Planned) (turn position : ℕ) → share_there plan turn position ≢ 0 →
    (planned : Planned) × (slice_get plan turn ≡ Some planned) × (share_there plan turn position ≡ slice_index planned.shares position)
shares_at [] turn position some = absurd (some refl)
shares_at (planned ∷ plan) zero position some = (planned, refl, refl)
shares_at (planned ∷ plan) (suc turn) position some = shares_at plan turn position some

claim_made : (c : Channel) (turn k : ℕ) (planned : Planned) →
    position (λ id. id == c.id) planned.turn.cluster.flow.channels ≡ Some k → slice_index planned.shares k ≢ 0 →
    (claim : Claim) × (claim_on c turn planned ≡ Some claim) × (is_at turn k claim ≡ true)
claim_made c turn k planned at some = (
  record {
    claimant = claimant_of planned.turn;
    turn = turn;
    position = k;
    sid = slice_index planned.turn.cluster.sids k;
    header = header_bytes planned.turn.cluster.flow;
    share = slice_index planned.shares k;
    slots = (grant_cost c.bursts (slice_index planned.shares k + header_bytes planned.turn.cluster.flow)).0;
    iuc = (grant_cost c.bursts (slice_index planned.shares k + header_bytes planned.turn.cluster.flow)).1;
  },
  rw (at, ne_eqb (slice_index planned.shares k) 0 some) refl,
  rw (eq-eqb turn turn refl, eq-eqb k k refl) refl,
)

claimed : (t : Tables) (plan : List Planned) (turn k : ℕ) → AreTables t → AllByRecursion (IsPlanned t) plan →
    share_there plan turn k ≢ 0 → AllByRecursion (no_claim plan turn k) t.channels → ⊥
claimed t plan turn k lawful all some none =
    let own = shares_at plan turn k some in
    let planned : Planned = own.0 in
    let is : IsPlanned t planned = all_at (IsPlanned t) plan turn planned all own.1 in
    let flow : IsFlow t planned.turn.cluster.flow = flow_of t planned.turn lawful is.turn in
    let share : slice_index planned.shares k ≢ 0 = λ empty. some (own.2 ∙ empty) in
    let within : k < length planned.turn.cluster.flow.channels = elim (cases_lt k (length planned.shares)) [
      | inl low ↦ omega (arith, is.one_each)
      | inr past ↦ absurd (share (get_or_past planned.shares k 0 past))
    ] in
    let id : ℕ = slice_index planned.turn.cluster.flow.channels k in
    let known : has_channel t.channels id ≡ true =
    All-from_recursion (λ id. has_channel t.channels id ≡ true) planned.turn.cluster.flow.channels flow.channels k 0 within in
    let channel = no_such (no_claim plan turn k) id t.channels known none in
    let at : position (λ i. i == channel.0.id) planned.turn.cluster.flow.channels ≡ Some k =
    ap (λ n. position (λ i. i == n) planned.turn.cluster.flow.channels) channel.1 ∙
    position_at planned.turn.cluster.flow.channels k flow.apart within in
    let claim = claim_made channel.0 turn k planned at share in
    let start : 0 + turn ≡ turn = omega arith in
    claim_there channel.0 0 turn k plan planned claim.0 own.1 (rw start claim.1) (rw start claim.2) (rw start channel.2)

-- what is looked up is the share
pub share_of-plan : (t : Tables) (outstanding : List ℕ) (allowances : List (Option ℕ)) (reserves idle : List ℕ) → AreTables t →
    IsIdle t idle → (turn position : ℕ) →
    share_of (all_claims t (plan_for t outstanding allowances reserves idle)) turn position ≡
    slice_index (slice_index_or (map (λ planned. planned.shares) (plan_for t outstanding allowances reserves idle)) turn []) position
share_of-plan t outstanding allowances reserves idle lawful is turn position =
    let plan : List Planned = plan_for t outstanding allowances reserves idle in
    elim (share_or_none plan turn position t.channels) [
      | inl same ↦ same
      | inr none ↦ elim (cases_eq (share_there plan turn position) 0) [
        | inl empty ↦ none.0 ∙ sym empty
        | inr some ↦
            absurd (claimed t plan turn position lawful (plan_for-planned t outstanding allowances reserves idle lawful is) some none.1)
      ]
    ]
