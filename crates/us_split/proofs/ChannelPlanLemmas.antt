-- What is planned on channels: fewer minislots last no longer, where ids are apart a channel stands at one place, and the
-- shares of a turn change each channel as its share there does.
use Rattle.std.proofs.Common.{◌≡◌, ◌≢◌, ℕ, zero, suc, ◌+◌, ◌-◌, ◌*◌, ◌/◌, ◌==◌, ◌<◌, ◌≤◌, min, List, [], ◌∷◌, ◌++◌, length, map, set, get_or, Option, Some, None, option_map, refl, sym, ap, ap₂, ◌∙◌, subst, inl, inr, eq-eqb, ne_eqb, append-nil, arith}
use Rattle.std.specs.Prelude.{slice_index, position, option_and_then, option_to_list}
use Rattle.std.specs.List.{AllByRecursion}
use Rattle.std.proofs.Math.Nat.{div-le_self, div-mul-le_self, le-div_iff_mul-le}
use Rattle.std.proofs.lemmas.Nat.{mul-le, pow_pos}
use Rattle.std.proofs.lemmas.Bool.{cases_eq}
use Rattle.us_slots.specs.Times.{Timing, minislot_ticks}
use Rattle.us_flows.specs.declared.channels.Channel.{Channel}
use Rattle.us_flows.specs.Tables.{header_bytes}
use Rattle.us_flows.specs.Ranges.{max_round_ticks}
use Rattle.us_flows.specs.Lawful.{AreApart}
use Rattle.us_split.specs.Plans.{Planned, budget_of, cost_on, share_at, share_cost}
use Rattle.us_split.specs.Claims.{claim_at}
use Rattle.us_split.specs.PartialPlans.{Asker, ChannelPlan, IsPlaceOf, asker_of, budget_in, channel_of, claimed_at, claimed_from, with_claim, with_share, with_turn}
use Rattle.us_split.proofs.ChannelShareLemmas.{first_place, later_place}

pub fewer_ticks : (slots less ticks : ℕ) → slots * ticks ≤ max_round_ticks → (slots - less) * ticks ≤ max_round_ticks
fewer_ticks slots less ticks h =
    let product : (slots - less) * ticks ≤ slots * ticks = mul-le (slots - less) ticks slots ticks (omega arith) (omega arith) in
    omega arith

-- so many minislots as a MAP can have last no longer than a round
pub most_ticks : (slots ticks : ℕ) → slots ≤ 4096 / ticks → slots * ticks ≤ 4096
most_ticks slots ticks few =
    omega (arith, mul-le slots ticks (4096 / ticks) ticks few (omega arith), div-mul-le_self 4096 ticks)

-- and are no more than 4,096
pub most_few : (slots ticks : ℕ) → min (min slots 4294967295) (4096 / ticks) ≡ min slots (4096 / ticks)
most_few slots ticks = omega (arith, div-le_self 4096 ticks)

pub ruleset most_facts = (most_ticks, most_few)

-- minislots that last no longer than a round are no more than a MAP can have
pub few_slots : (time : Timing) (slots : ℕ) → slots * minislot_ticks time ≤ 4096 → slots ≤ 4096 / minislot_ticks time
few_slots time slots ticks =
    (le-div_iff_mul-le {k = minislot_ticks time} {x = slots} {y = 4096} (pow_pos time.minislot_log2)).1 ticks

pub ruleset few_facts = (few_slots)

-- Ids.

abbrev pub ids : List ChannelPlan → List ℕ
ids channels = map (λ c. c.channel.id) channels

other_id : (id : ℕ) (xs : List ChannelPlan) (place : ℕ) (d : ChannelPlan) → AllByRecursion (λ y. id ≢ y) (ids xs) →
    place < length xs → id ≢ (get_or xs place d).channel.id
other_id id [] place d all within = absurd (omega (arith, within))
other_id id (x ∷ xs) zero d all within = all.0
other_id id (x ∷ xs) (suc place) d all within = other_id id xs place d all.1 (omega (arith, within))

pub not_first : (x : ChannelPlan) (xs : List ChannelPlan) (id place : ℕ) → AreApart (ids (x ∷ xs)) →
    IsPlaceOf (x ∷ xs) id (suc place) → x.channel.id ≢ id
not_first x xs id place apart is =
    λ same. other_id x.channel.id xs place x apart.0 (omega (arith, is.within)) (same ∙ sym (is.own x))

pub later : (x : ChannelPlan) (xs : List ChannelPlan) (id place : ℕ) → IsPlaceOf (x ∷ xs) id (suc place) → IsPlaceOf xs id place
later x xs id place is = record { within = omega (arith, is.within); own = λ c. is.own c }

-- the channel that stands at the place of an id is the one that is found
found_at : (channels : List ChannelPlan) (id place : ℕ) (d : ChannelPlan) → AreApart (ids channels) →
    IsPlaceOf channels id place → channel_of channels id ≡ Some (get_or channels place d)
found_at [] id place d apart is = absurd (omega (arith, is.within))
found_at (x ∷ xs) id zero d apart is = rw (eq-eqb x.channel.id id (is.own d)) refl
found_at (x ∷ xs) id (suc place) d apart is =
    rw (ne_eqb x.channel.id id (not_first x xs id place apart is))
    (found_at xs id place d apart.1 (later x xs id place is))

-- and so is its budget
budget_found : (channels : List ChannelPlan) (id : ℕ) →
    budget_of (map budget_in channels) id ≡ option_map budget_in (channel_of channels id)
budget_found [] id = refl
budget_found (x ∷ xs) id = elim (cases_eq x.channel.id id) [
  | inl same ↦ rw (eq-eqb x.channel.id id same) refl
  | inr other ↦ rw (ne_eqb x.channel.id id other) (budget_found xs id)
]

pub budget_at : (channels : List ChannelPlan) (id place : ℕ) (d : ChannelPlan) → AreApart (ids channels) →
    IsPlaceOf channels id place → budget_of (map budget_in channels) id ≡ Some (budget_in (get_or channels place d))
budget_at channels id place d apart is =
    budget_found channels id ∙ ap (option_map budget_in) (found_at channels id place d apart is)

-- A share on one channel.

other_kept : (asker : Asker) (position id sid share : ℕ) (c : ChannelPlan) → c.channel.id ≢ id →
    claimed_at asker position id sid share c ≡ c
other_kept asker position id sid share c other = rw (ne_eqb c.channel.id id other) refl

all_kept : (asker : Asker) (position id sid share : ℕ) (xs : List ChannelPlan) → AllByRecursion (λ y. id ≢ y) (ids xs) →
    map (claimed_at asker position id sid share) xs ≡ xs
all_kept asker position id sid share [] all = refl
all_kept asker position id sid share (x ∷ xs) all =
    ap₂ (λ c cs. c ∷ cs) (other_kept asker position id sid share x (λ same. all.0 (sym same)))
    (all_kept asker position id sid share xs all.1)

-- where there is no share nothing changes,
same_share : (asker : Asker) (position id sid share : ℕ) (c : ChannelPlan) → share ≡ 0 →
    claimed_at asker position id sid share c ≡ c
same_share asker position id sid share c none = elim (cases_eq c.channel.id id) [
  | inl same ↦ rw (eq-eqb c.channel.id id same, eq-eqb share 0 none) refl
  | inr other ↦ other_kept asker position id sid share c other
]

pub no_share_claimed : (asker : Asker) (position id sid share : ℕ) (xs : List ChannelPlan) → share ≡ 0 →
    xs ≡ map (claimed_at asker position id sid share) xs
no_share_claimed asker position id sid share [] none = refl
no_share_claimed asker position id sid share (x ∷ xs) none =
    ap₂ (λ c cs. c ∷ cs) (sym (same_share asker position id sid share x none))
    (no_share_claimed asker position id sid share xs none)

-- and else the channel at its place
pub one_claimed : (asker : Asker) (position id sid share place : ℕ) (xs : List ChannelPlan) (d : ChannelPlan) →
    AreApart (ids xs) → IsPlaceOf xs id place → share ≢ 0 →
    set xs place (with_claim asker position sid share (get_or xs place d)) ≡
    map (claimed_at asker position id sid share) xs
one_claimed asker position id sid share place [] d apart is some = absurd (omega (arith, is.within))
one_claimed asker position id sid share zero (x ∷ xs) d apart is some =
    let own : x.channel.id ≡ id = is.own d in
    let others : AllByRecursion (λ y. id ≢ y) (ids xs) = subst (λ n. AllByRecursion (λ y. n ≢ y) (ids xs)) own apart.0 in
    rw (eq-eqb x.channel.id id own, ne_eqb share 0 some)
    (ap (λ cs. with_claim asker position sid share x ∷ cs) (sym (all_kept asker position id sid share xs others)))
one_claimed asker position id sid share (suc place) (x ∷ xs) d apart is some =
    ap₂ (λ c cs. c ∷ cs) (sym (other_kept asker position id sid share x (not_first x xs id place apart is)))
    (one_claimed asker position id sid share place xs d apart.1 (later x xs id place is) some)

-- Shares on channels, one after another.

pub claimed_more : (asker : Asker) (position id : ℕ) (more sids shares : List ℕ) (xs : List ChannelPlan) →
    map (claimed_from asker (position + 1) more sids shares)
    (map (claimed_at asker position id (slice_index sids position) (slice_index shares position)) xs)
    ≡ map (claimed_from asker position (id ∷ more) sids shares) xs
unfolding claimed_from
claimed_more asker position id more sids shares [] = refl
claimed_more asker position id more sids shares (x ∷ xs) =
    ap (λ cs. claimed_from asker position (id ∷ more) sids shares x ∷ cs)
    (claimed_more asker position id more sids shares xs)

pub claimed_end : (asker : Asker) (position : ℕ) (sids shares : List ℕ) (xs : List ChannelPlan) →
    map (claimed_from asker position [] sids shares) xs ≡ xs
unfolding claimed_from
claimed_end asker position sids shares [] = refl
claimed_end asker position sids shares (x ∷ xs) =
    ap (λ cs. x ∷ cs) (claimed_end asker position sids shares xs)

-- The same, told by the channel.

-- the share at a place that is counted from a position
abbrev claimed_there : Asker → ℕ → Option ℕ → List ℕ → List ℕ → ChannelPlan → ChannelPlan
claimed_there asker position None sids shares c = c
claimed_there asker position (Some k) sids shares c =
    with_share asker (position + k) (slice_index sids (position + k)) (slice_index shares (position + k)) c

shifted : (asker : Asker) (position : ℕ) (found : Option ℕ) (sids shares : List ℕ) (c : ChannelPlan) →
    claimed_there asker (position + 1) found sids shares c ≡ claimed_there asker position (option_map suc found) sids shares c
shifted asker position None sids shares c = refl
shifted asker position (Some k) sids shares c =
    let next : position + 1 + k ≡ position + suc k = omega arith in
    ap (λ n. with_share asker n (slice_index sids n) (slice_index shares n) c) next

pub absent : (id : ℕ) (more : List ℕ) → AllByRecursion (λ y. id ≢ y) more → position (λ i. i == id) more ≡ None
absent id [] all = refl
absent id (x ∷ xs) all =
    later_place (λ i. i == id) x xs (ne_eqb x id (λ same. all.0 (sym same))) ∙ ap (option_map suc) (absent id xs all.1)

same_channel : (asker : Asker) (position sid share : ℕ) (c : ChannelPlan) →
    (with_share asker position sid share c).channel ≡ c.channel
same_channel asker position sid share c = elim (cases_eq share 0) [
  | inl none ↦ rw (eq-eqb share 0 none) refl
  | inr some ↦ rw (ne_eqb share 0 some) refl
]

claimed_by_channel : (asker : Asker) (first : ℕ) (more sids shares : List ℕ) (c : ChannelPlan) → AreApart more →
    claimed_from asker first more sids shares c ≡
    claimed_there asker first (position (λ id. id == c.channel.id) more) sids shares c
unfolding claimed_from
claimed_by_channel asker first [] sids shares c apart = refl
claimed_by_channel asker first (id ∷ more) sids shares c apart = elim (cases_eq c.channel.id id) [
  | inl same ↦
      let own : ChannelPlan = with_share asker first (slice_index sids first) (slice_index shares first) c in
      let kept : own.channel ≡ c.channel = same_channel asker first (slice_index sids first) (slice_index shares first) c in
      let others : AllByRecursion (λ y. c.channel.id ≢ y) more = subst (λ n. AllByRecursion (λ y. n ≢ y) more) (sym same) apart.0 in
      let here : position (λ i. i == c.channel.id) (id ∷ more) ≡ Some 0 =
      first_place (λ i. i == c.channel.id) id more (eq-eqb id c.channel.id (sym same)) in
      let rest : claimed_from asker (first + 1) more sids shares own ≡ own =
      claimed_by_channel asker (first + 1) more sids shares own apart.1 ∙
      ap (λ found. claimed_there asker (first + 1) found sids shares own)
      (ap (λ (x : Channel). position (λ i. i == x.id) more) kept ∙ absent c.channel.id more others) in
      let start : first + 0 ≡ first = omega arith in
      rw (eq-eqb c.channel.id id same) (rest ∙
      ap (λ n. with_share asker n (slice_index sids n) (slice_index shares n) c) (sym start) ∙
      ap (λ found. claimed_there asker first found sids shares c) (sym here))
  | inr other ↦
      let there : position (λ i. i == c.channel.id) (id ∷ more) ≡ option_map suc (position (λ i. i == c.channel.id) more) =
      later_place (λ i. i == c.channel.id) id more (ne_eqb id c.channel.id (λ same. other (sym same))) in
      rw (ne_eqb c.channel.id id other)
      (claimed_by_channel asker (first + 1) more sids shares c apart.1 ∙
      shifted asker first (position (λ i. i == c.channel.id) more) sids shares c ∙
      ap (λ found. claimed_there asker first found sids shares c) (sym there))
]

-- which is what the plan says of the turn

there_planned : (place : ℕ) (planned : Planned) (found : Option ℕ) (c : ChannelPlan) →
    claimed_there (asker_of place planned.turn) 0 found planned.turn.cluster.sids planned.shares c ≡ record {
      channel = c.channel;
      slots = c.slots - share_cost c.channel (header_bytes planned.turn.cluster.flow) (share_at planned.shares found);
      claims = c.claims ++ option_to_list (option_and_then (claim_at c.channel place planned) found);
    }
there_planned place planned None c =
    let all : c.slots ≡ c.slots - 0 = omega arith in
    ap₂ (λ n xs. let c : ChannelPlan = record { channel = c.channel; slots = n; claims = xs } in c) all (sym (append-nil c.claims))
there_planned place planned (Some k) c =
    let start : 0 + k ≡ k = omega arith in
    ap (λ n. with_share (asker_of place planned.turn) n (slice_index planned.turn.cluster.sids n) (slice_index planned.shares n) c) start ∙
    (elim (cases_eq (slice_index planned.shares k) 0) [
      | inl none ↦
          let all : c.slots ≡ c.slots - 0 = omega arith in
          rw (eq-eqb (slice_index planned.shares k) 0 none)
          (ap₂ (λ n xs. let c : ChannelPlan = record { channel = c.channel; slots = n; claims = xs } in c) all (sym (append-nil c.claims)))
      | inr some ↦ rw (ne_eqb (slice_index planned.shares k) 0 some) refl
    ])

pub claimed_turn : (place : ℕ) (planned : Planned) (xs : List ChannelPlan) →
    AreApart planned.turn.cluster.flow.channels →
    map (claimed_from (asker_of place planned.turn) 0 planned.turn.cluster.flow.channels planned.turn.cluster.sids planned.shares) xs
    ≡ map (with_turn place planned) xs
unfolding cost_on
claimed_turn place planned [] apart = refl
claimed_turn place planned (x ∷ xs) apart =
    ap₂ (λ c cs. c ∷ cs)
    (claimed_by_channel (asker_of place planned.turn) 0 planned.turn.cluster.flow.channels planned.turn.cluster.sids planned.shares x apart ∙
    there_planned place planned (position (λ id. id == x.channel.id) planned.turn.cluster.flow.channels) x)
    (claimed_turn place planned xs apart)
