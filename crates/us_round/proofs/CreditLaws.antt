-- The credits of a round: of any claimants, on all channels together, at most what is planned for them.
use Rattle.std.proofs.Common.{◌≡◌, ◌≢◌, ℕ, ◌+◌, ◌≤◌, ◌==◌, eq-eqb, ne_eqb, List, [], ◌∷◌, ◌++◌, map, filter, Bool, cond, Option, Some, None, refl, arith, inl, inr}
use Rattle.std.specs.Prelude.{sum, sum_by, option_to_list, position, slice_index, option_and_then}
use Rattle.std.specs.List.{AllByRecursion}
use Rattle.std.proofs.lemmas.Bool.{cases_Bool, cases_eq, cases_lt}
use Rattle.std.proofs.lemmas.List.Sums.{sum_by-cons}
use Rattle.std.proofs.lemmas.List.Concat.{flat_map-cons}
use Rattle.us_slots.specs.Bursts.{IsChannelBursts, grant_cost}
use Rattle.us_flows.specs.declared.channels.Channel.{Channel}
use Rattle.us_flows.specs.Lawful.{AreApart}
use Rattle.us_flows.specs.Tables.{header_bytes}
use Rattle.us_split.proofs.ChannelShareLemmas.{channel_shares}
use Rattle.us_split.specs.Plans.{Planned, share_at, share_on}
use Rattle.us_split.specs.PlanLaws.{planned_bytes}
use Rattle.us_split.specs.Claims.{Claimant, Claim, claimant_of, claim_at, claims_from, claims_on}
use Rattle.us_channel.specs.Placements.{PlacedClaim, grants_of, credits}
use Rattle.us_channel.specs.Channels.{Filled}
use Rattle.us_round.specs.Rounds.{build_planned, all_grants}
use Rattle.us_channel.proofs.SumLemmas.{sum_passing, sum_passing_both, sum_least, sum_both, sum_none}
use Rattle.us_channel.proofs.GrantLaws.{AreShares, grants_are, credits_few}

-- Claims.

-- the shares of the claimants that pass on a channel, of turns from a place on
abbrev passing_from : ℕ → (Claimant → Bool) → List Planned → Channel → ℕ
passing_from place passes plan channel =
    sum_by (λ c. c.share) (filter (λ c. passes c.claimant) (claims_from channel place plan))

-- those of all turns,
abbrev passing : (Claimant → Bool) → List Planned → Channel → ℕ
passing passes plan channel = passing_from 0 passes plan channel

-- and those of one
abbrev first : (Claimant → Bool) → Planned → Channel → ℕ
first passes planned channel = cond (passes (claimant_of planned.turn)) (share_on channel.id planned) 0

claimed_first : (passes : Claimant → Bool) (channel : Channel) (turn : ℕ) (planned : Planned) (place : Option ℕ)
    (cs : List Claim) →
    sum_by (λ c. c.share) (filter (λ c. passes c.claimant)
    (option_to_list (option_and_then (claim_at channel turn planned) place) ++ cs))
    ≤ cond (passes (claimant_of planned.turn)) (share_at planned.shares place) 0
    + sum_by (λ c. c.share) (filter (λ c. passes c.claimant) cs)
claimed_first passes channel turn planned None cs = omega arith
claimed_first passes channel turn planned (Some place) cs = elim (cases_Bool (slice_index planned.shares place == 0)) [
  | inl none ↦ rw none (omega arith)
  | inr some ↦ rw some (omega (
    arith,
    sum_passing (λ c. c.share) (λ c. passes c.claimant) (record {
      claimant = claimant_of planned.turn;
      turn = turn;
      position = place;
      sid = slice_index planned.turn.cluster.sids place;
      header = header_bytes planned.turn.cluster.flow;
      share = slice_index planned.shares place;
      slots = (grant_cost channel.bursts (slice_index planned.shares place + header_bytes planned.turn.cluster.flow)).0;
      iuc = (grant_cost channel.bursts (slice_index planned.shares place + header_bytes planned.turn.cluster.flow)).1;
    }) cs,
  ))
]

passing_more : (turn : ℕ) (passes : Claimant → Bool) (planned : Planned) (plan : List Planned) (c : Channel) →
    passing_from turn passes (planned ∷ plan) c ≤ first passes planned c + passing_from (turn + 1) passes plan c
unfolding claims_from
passing_more turn passes planned plan c =
    claimed_first passes c turn planned (position (λ channel. channel == c.id) planned.turn.cluster.flow.channels)
    (claims_from c (turn + 1) plan)

first_few : (passes : Claimant → Bool) (planned : Planned) (channels : List Channel) → AreApart (map (λ c. c.id) channels) →
    sum_by (first passes planned) channels ≤ cond (passes (claimant_of planned.turn)) (sum planned.shares) 0
first_few passes planned channels apart = elim (cases_Bool (passes (claimant_of planned.turn))) [
  | inl is ↦ rw is (channel_shares planned channels apart)
  | inr not ↦ rw not (omega (arith, sum_none {X = Channel} (λ c. 0) (λ c. refl) channels))
]

claims_none : (turn : ℕ) (passes : Claimant → Bool) (c : Channel) → passing_from turn passes [] c ≡ 0
unfolding claims_from
claims_none turn passes c = refl

pub claims_few : (turn : ℕ) (passes : Claimant → Bool) (plan : List Planned) (channels : List Channel) →
    AreApart (map (λ c. c.id) channels) →
    sum_by (passing_from turn passes plan) channels
    ≤ planned_bytes (filter (λ planned. passes (claimant_of planned.turn)) plan)
claims_few turn passes [] channels apart =
    let none : sum_by (passing_from turn passes []) channels ≡ 0 =
    sum_none (passing_from turn passes []) (claims_none turn passes) channels in
    omega arith
claims_few turn passes (planned ∷ plan) channels apart =
    let parts : sum_by (passing_from turn passes (planned ∷ plan)) channels
    ≤ sum_by (λ c. first passes planned c + passing_from (turn + 1) passes plan c) channels =
    sum_least (passing_from turn passes (planned ∷ plan)) (λ c. first passes planned c + passing_from (turn + 1) passes plan c)
    (passing_more turn passes planned plan) channels in
    let both : sum_by (λ c. first passes planned c + passing_from (turn + 1) passes plan c) channels
    ≡ sum_by (first passes planned) channels + sum_by (passing_from (turn + 1) passes plan) channels =
    sum_both (first passes planned) (passing_from (turn + 1) passes plan) channels in
    let all : planned_bytes (filter (λ planned. passes (claimant_of planned.turn)) (planned ∷ plan))
    ≡ cond (passes (claimant_of planned.turn)) (sum planned.shares) 0
    + planned_bytes (filter (λ planned. passes (claimant_of planned.turn)) plan) =
    sum_passing (λ planned. sum planned.shares) (λ planned. passes (claimant_of planned.turn)) planned plan in
    omega (arith, parts, both, all, first_few passes planned channels apart, claims_few (turn + 1) passes plan channels apart)

-- All channels.

above : (n : ℕ) → n ≢ 0 → 1 ≤ n
above n some = elim (cases_lt 0 n) [
  | inl more ↦ more
  | inr none ↦ absurd (some (omega arith))
]

claims_some_from : (c : Channel) (turn : ℕ) (plan : List Planned) → AreShares (claims_from c turn plan)
unfolding claims_from
claims_some_from c turn [] = tt
claims_some_from c turn (planned ∷ plan) =
    by (position (λ channel. channel == c.id) planned.turn.cluster.flow.channels) (claims_some_from c (turn + 1) plan)
  where
    by : (place : Option ℕ) → AreShares (claims_from c (turn + 1) plan) →
        AreShares (option_to_list (option_and_then (claim_at c turn planned) place) ++ claims_from c (turn + 1) plan)
    by None rest = rest
    by (Some place) rest = elim (cases_eq (slice_index planned.shares place) 0) [
      | inl none ↦ rw (eq-eqb (slice_index planned.shares place) 0 none) rest
      | inr some ↦ rw (ne_eqb (slice_index planned.shares place) 0 some) (above (slice_index planned.shares place) some, rest)
    ]

pub claims_some : (c : Channel) (plan : List Planned) → AreShares (claims_on c plan)
claims_some c plan = claims_some_from c 0 plan

builds_few : (passes : Claimant → Bool) (plan : List Planned) (fs : List Filled) →
    AllByRecursion (λ f. IsChannelBursts f.channel.bursts) fs →
    credits (λ g. passes g.claimant) (all_grants (map (build_planned plan) fs))
    ≤ sum_by (passing passes plan) (map (λ f. f.channel) fs)
unfolding build_planned
builds_few passes plan [] lawful = omega arith
builds_few passes plan (f ∷ fs) lawful =
    let cs : List Claim = claims_on f.channel plan in
    let gs : List PlacedClaim = grants_of f.channel.bursts f.board cs in
    let more : List PlacedClaim = all_grants (map (build_planned plan) fs) in
    let one : credits (λ g. passes g.claimant) gs ≤ passing passes plan f.channel =
    credits_few f.channel.bursts passes f.board cs gs
    (grants_are f.channel.bursts f.board cs lawful.0 (claims_some f.channel plan)) in
    let both : credits (λ g. passes g.claimant) (gs ++ more)
    ≡ credits (λ g. passes g.claimant) gs + credits (λ g. passes g.claimant) more =
    sum_passing_both (λ g. g.credit) (λ g. passes g.claimant) gs more in
    let parts : sum_by (passing passes plan) (f.channel ∷ map (λ f. f.channel) fs)
    ≡ passing passes plan f.channel + sum_by (passing passes plan) (map (λ f. f.channel) fs) =
    sum_by-cons (passing passes plan) f.channel (map (λ f. f.channel) fs) in
    let rest : credits (λ g. passes g.claimant) more ≤ sum_by (passing passes plan) (map (λ f. f.channel) fs) =
    builds_few passes plan fs lawful.1 in
    let split : all_grants (map (build_planned plan) (f ∷ fs)) ≡ gs ++ more =
    flat_map-cons (λ b. b.grants) (build_planned plan f) (map (build_planned plan) fs) in
    rw split (omega (arith, one, both, parts, rest))

-- of the claimants that pass, all channels together credit at most what is planned for them
pub credits_planned : (passes : Claimant → Bool) (plan : List Planned) (fs : List Filled) →
    AllByRecursion (λ f. IsChannelBursts f.channel.bursts) fs →
    AreApart (map (λ c. c.id) (map (λ f. f.channel) fs)) →
    credits (λ g. passes g.claimant) (all_grants (map (build_planned plan) fs))
    ≤ planned_bytes (filter (λ planned. passes (claimant_of planned.turn)) plan)
credits_planned passes plan fs lawful apart =
    omega (arith, builds_few passes plan fs lawful, claims_few 0 passes plan (map (λ f. f.channel) fs) apart)
