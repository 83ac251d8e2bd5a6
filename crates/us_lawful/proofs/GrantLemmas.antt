-- Whose the grants of a round are: each is of a turn of the tables, and no cluster has two on a channel.
use Rattle.std.proofs.Common.{◌≡◌, ℕ, ◌+◌, ◌≤◌, ◌==◌, eq-eqb, ne_eqb, eqb-true, true, List, [], ◌∷◌, map, cond, Some, refl, sym, ap, ap₂, subst, ◌∙◌, arith, inl, inr}
use Rattle.std.specs.Prelude.{◌&&◌, count_by, slice_get}
use Rattle.std.specs.List.{AllByRecursion}
use Rattle.std.proofs.lemmas.Bool.{cases_Bool, cases_eq, and_parts}
use Rattle.std.proofs.lemmas.List.Sums.{sum_by-cons}
use Rattle.us_slots.specs.Bursts.{grant_cost}
use Rattle.us_flows.specs.declared.channels.Channel.{Channel}
use Rattle.us_flows.specs.Tables.{Tables, FlowTable, header_bytes}
use Rattle.us_flows.specs.Clusters.{Turn, IsTurnIn, has_sid, words_before}
use Rattle.us_flows.specs.Lawful.{AreTables}
use Rattle.us_flows.proofs.KeyLaws.{place_of_key}
use Rattle.us_flows.proofs.TurnLaws.{one_turn}
use Rattle.us_bucket.specs.Levels.{bytes_in, reserve_in}
use Rattle.us_split.specs.Plans.{Planned}
use Rattle.us_split.specs.Claims.{Claim, claimant_of, claims_on}
use Rattle.us_split.specs.Laws.{IsOfTurn}
use Rattle.us_split.proofs.TurnClaimLaws.{claims_are_of_turns, clusters_claim_once}
use Rattle.us_channel.specs.Placements.{PlacedClaim}
use Rattle.us_channel.specs.Channels.{Filled, Built}
use Rattle.us_channel.specs.Laws.{IsGrantFor, AreGrantsFor}
use Rattle.us_channel.proofs.BoardLaws.{grants_are_of_claims}
use Rattle.us_round.specs.Rounds.{State, fills_of, idle, round_plan, build_planned, builds_of}
use Rattle.us_output.specs.Leftovers.{IsBuiltFor}
use Rattle.us_round.proofs.CreditLaws.{claims_some}
use Rattle.us_lawful.proofs.RoundLemmas.{IsRoundOf}

-- One channel.

-- its grants are of claims, each of which is of a turn, and no cluster has two
pub record HasClaims (t : Tables) (b : Built) : Type 0 where
  pub claims : List Claim
  pub turns : AllByRecursion (IsOfTurn t b.channel) claims
  pub once : (number : ℕ) → count_by (λ claim. claim.claimant.cluster == number) claims ≤ 1
  pub grants : AreGrantsFor b.channel.bursts claims b.grants

-- a grant of a turn of the tables: it has the turn's SID on the channel, credits a byte at least, and costs what these bytes
-- cost behind the header
pub record IsTurnGrant (t : Tables) (c : Channel) (g : PlacedClaim) : Type 0 where
  pub turn : Turn
  pub known : IsTurnIn t turn
  pub claimant : g.claimant ≡ claimant_of turn
  pub sid : has_sid c.id g.assignment.owner.sid turn.cluster ≡ true
  pub some : 1 ≤ g.credit
  pub cost : (g.assignment.slots, g.assignment.owner.iuc) ≡ grant_cost c.bursts (g.credit + header_bytes turn.cluster.flow)

turn_grant : (t : Tables) (c : Channel) (claim : Claim) (g : PlacedClaim) → IsOfTurn t c claim → IsGrantFor c.bursts claim g →
    IsTurnGrant t c g
turn_grant t c claim g of is = record {
  turn = of.turn;
  known = of.known;
  claimant = is.claimant ∙ of.claimant;
  sid = subst (λ sid. has_sid c.id sid of.turn.cluster ≡ true) (sym is.sid) of.sid;
  some = is.some;
  cost = is.cost ∙ ap (λ header. grant_cost c.bursts (g.credit + header)) of.header;
}

turn_grants : (t : Tables) (c : Channel) (claims : List Claim) (grants : List PlacedClaim) →
    AllByRecursion (IsOfTurn t c) claims → AreGrantsFor c.bursts claims grants → AllByRecursion (IsTurnGrant t c) grants
unfolding AreGrantsFor
turn_grants t c [] [] of are = tt
turn_grants t c [] (g ∷ grants) of are = absurd are
turn_grants t c (claim ∷ claims) [] of are = tt
turn_grants t c (claim ∷ claims) (g ∷ grants) of are = elim are [
  | inl both ↦ (turn_grant t c claim g of.0 both.0, turn_grants t c claims grants of.1 both.1)
  | inr later ↦ turn_grants t c claims (g ∷ grants) of.1 later
]

pub grants_of_turns : (t : Tables) (b : Built) → HasClaims t b → AllByRecursion (IsTurnGrant t b.channel) b.grants
grants_of_turns t b has = turn_grants t b.channel has.claims b.grants has.turns has.grants

-- grants are at most as many as claims
fewer : (c : Channel) (number : ℕ) (claims : List Claim) (grants : List PlacedClaim) → AreGrantsFor c.bursts claims grants →
    count_by (λ (g : PlacedClaim). g.claimant.cluster == number) grants
    ≤ count_by (λ (claim : Claim). claim.claimant.cluster == number) claims
unfolding AreGrantsFor
fewer c number [] [] are = omega arith
fewer c number [] (g ∷ grants) are = absurd are
fewer c number (claim ∷ claims) [] are = omega arith
fewer c number (claim ∷ claims) (g ∷ grants) are =
    let one : count_by (λ (claim : Claim). claim.claimant.cluster == number) (claim ∷ claims)
    ≡ cond (claim.claimant.cluster == number) 1 0 + count_by (λ (claim : Claim). claim.claimant.cluster == number) claims =
    sum_by-cons (λ (claim : Claim). cond (claim.claimant.cluster == number) 1 0) claim claims in
    elim are [
      | inl both ↦
          let same : cond {A = ℕ} (g.claimant.cluster == number) 1 0 ≡ cond (claim.claimant.cluster == number) 1 0 =
          ap (λ claimant. cond (claimant.cluster == number) 1 0) both.0.claimant in
          let first : count_by (λ (g : PlacedClaim). g.claimant.cluster == number) (g ∷ grants)
          ≡ cond (g.claimant.cluster == number) 1 0 + count_by (λ (g : PlacedClaim). g.claimant.cluster == number) grants =
          sum_by-cons (λ (g : PlacedClaim). cond (g.claimant.cluster == number) 1 0) g grants in
          omega (arith, one, same, first, fewer c number claims grants both.1)
      | inr later ↦ omega (arith, one, fewer c number claims (g ∷ grants) later)
    ]

pub grants_once : (t : Tables) (b : Built) (number : ℕ) → HasClaims t b →
    count_by (λ (g : PlacedClaim). g.claimant.cluster == number) b.grants ≤ 1
grants_once t b number has = omega (arith, fewer b.channel number has.claims b.grants has.grants, has.once number)

-- All channels of a round.

built_claims : (s : State) (plan : List Planned) (f : Filled) → AreTables s.tables → plan ≡ round_plan s →
    IsBuiltFor s.tables (build_planned plan f) → HasClaims s.tables (build_planned plan f)
unfolding build_planned
built_claims s plan f lawful same is =
    let c : Channel = f.channel in
    let claims : List Claim = claims_on c plan in
    record {
      claims = claims;
      turns = subst (λ p. AllByRecursion (IsOfTurn s.tables c) (claims_on c p)) (sym same)
          (claims_are_of_turns s.tables s.outstanding (map bytes_in s.buckets) (map reserve_in s.reserves) (idle (fills_of s))
          c lawful);
      once = λ number. subst (λ p. count_by (λ claim. claim.claimant.cluster == number) (claims_on c p) ≤ 1) (sym same)
          (clusters_claim_once s.tables s.outstanding (map bytes_in s.buckets) (map reserve_in s.reserves) (idle (fills_of s))
          c number);
      grants = grants_are_of_claims c.bursts f.board claims is.channel.bursts (claims_some c plan);
    }

all_claimed : (s : State) (plan : List Planned) (fs : List Filled) → AreTables s.tables → plan ≡ round_plan s →
    AllByRecursion (IsBuiltFor s.tables) (map (build_planned plan) fs) →
    AllByRecursion (HasClaims s.tables) (map (build_planned plan) fs)
all_claimed s plan [] lawful same all = tt
all_claimed s plan (f ∷ fs) lawful same all =
    (built_claims s plan f lawful same all.0, all_claimed s plan fs lawful same all.1)

pub builds_claimed : (t : Tables) (end : ℕ) (s : State) → AreTables t → IsRoundOf t end s →
    AllByRecursion (HasClaims t) (builds_of s)
unfolding builds_of
builds_claimed t end s lawful is =
    subst (λ u. AllByRecursion (HasClaims u) (builds_of s)) is.tables
    (all_claimed s (round_plan s) (fills_of s) (subst AreTables (sym is.tables) lawful) refl is.sound.boards)

-- Turns by what lines tell of them.

-- one place of the table, by the id of its flow
pub same_flow : (t : Tables) (a b : Turn) → AreTables t → IsTurnIn t a → IsTurnIn t b →
    (a.cluster.flow.id == b.cluster.flow.id) ≡ (a.place == b.place)
same_flow t a b lawful one other = elim (cases_eq a.place b.place) [
  | inl same ↦
      let found : Some a.cluster.flow ≡ Some b.cluster.flow = sym one.flow ∙ ap (slice_get t.flows) same ∙ other.flow in
      let flow : a.cluster.flow ≡ b.cluster.flow = cc in
      eq-eqb a.cluster.flow.id b.cluster.flow.id (ap (λ (f : FlowTable). f.id) flow) ∙ sym (eq-eqb a.place b.place same)
  | inr apart ↦
      ne_eqb a.cluster.flow.id b.cluster.flow.id (λ same. apart
      (place_of_key (λ (f : FlowTable). f.id) t.flows a.place b.place a.cluster.flow b.cluster.flow lawful.flows_apart one.flow
      other.flow same)) ∙ sym (ne_eqb a.place b.place apart)
]

-- one number, by the id of the flow and the place in it
pub same_cluster : (t : Tables) (a b : Turn) → AreTables t → IsTurnIn t a → IsTurnIn t b →
    ((a.cluster.flow.id == b.cluster.flow.id) && (a.cluster.list == b.cluster.list)) ≡ (a.number == b.number)
same_cluster t a b lawful one other = elim (cases_eq a.number b.number) [
  | inl same ↦
      let equal : a ≡ b = one_turn t a b one other same in
      ap₂ (λ p q. p && q)
      (eq-eqb a.cluster.flow.id b.cluster.flow.id (ap (λ (turn : Turn). turn.cluster.flow.id) equal))
      (eq-eqb a.cluster.list b.cluster.list (ap (λ (turn : Turn). turn.cluster.list) equal))
      ∙ sym (eq-eqb a.number b.number same)
  | inr apart ↦ elim (cases_Bool ((a.cluster.flow.id == b.cluster.flow.id) && (a.cluster.list == b.cluster.list))) [
    | inl both ↦
        let parts = and_parts (a.cluster.flow.id == b.cluster.flow.id) (a.cluster.list == b.cluster.list) both in
        let place : a.place ≡ b.place =
        place_of_key (λ (f : FlowTable). f.id) t.flows a.place b.place a.cluster.flow b.cluster.flow lawful.flows_apart
        one.flow other.flow (eqb-true a.cluster.flow.id b.cluster.flow.id parts.0) in
        let list : a.cluster.list ≡ b.cluster.list = eqb-true a.cluster.list b.cluster.list parts.1 in
        absurd (apart (one.before ∙ ap₂ (λ p l. words_before t.flows p + l) place list
        ∙ sym other.before))
    | inr differ ↦ differ ∙ sym (ne_eqb a.number b.number apart)
  ]
]
