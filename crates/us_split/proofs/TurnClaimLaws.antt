-- Whose the claims of a plan are: each is of a turn of the tables, and on a channel no cluster has two.
use Rattle.std.proofs.Common.{◌≡◌, ℕ, suc, ◌+◌, ◌==◌, ◌≤◌, ◌&&◌, Bool, true, false, cond, List, [], ◌∷◌, length, map, zip, count_by, Option, Some, None, option_map, refl, sym, ap, ◌∙◌, subst, inl, inr, eq-eqb, arith}
use Rattle.std.specs.Prelude.{position, slice_index, option_and_then, option_to_list}
use Rattle.std.specs.List.{AllByRecursion, list_any}
use Rattle.std.proofs.lemmas.Bool.{cases_Bool}
use Rattle.std.proofs.lemmas.List.Sums.{sum_by-append, sum_by-cons}
use Rattle.std.specs.Int.{IsInRange}
use Rattle.us_slots.specs.Bursts.{grant_cost}
use Rattle.us_flows.specs.declared.channels.Channel.{Channel}
use Rattle.us_flows.specs.Tables.{Tables, header_bytes}
use Rattle.us_flows.specs.Clusters.{Turn, IsTurnIn, has_sid}
use Rattle.us_flows.specs.Lawful.{AreTables}
use Rattle.us_flows.proofs.TurnLaws.{turns_of-once, turns_of-turns}
use Rattle.us_flows.proofs.TurnLemmas.{all-append}
use Rattle.us_split.specs.Plans.{Planned, plan_for}
use Rattle.us_split.specs.Claims.{Claim, claim_at, claim_on, claimant_of, claims_from}
use Rattle.us_split.specs.Laws.{ClaimsAreOfTurns, ClustersClaimOnce, IsOfTurn}
use Rattle.us_split.proofs.ChannelShareLemmas.{first_place, later_place}
use Rattle.us_split.proofs.ClaimLemmas.{all_at, flow_of}
use Rattle.us_split.proofs.TwoPassLaws.{plan_for-turns}

-- what a claim has of its planned turn
record IsMade (c : Channel) (planned : Planned) (claim : Claim) : Type 0 where
  k : ℕ
  at : position (λ id. id == c.id) planned.turn.cluster.flow.channels ≡ Some k
  claimant : claim.claimant ≡ claimant_of planned.turn
  header : claim.header ≡ header_bytes planned.turn.cluster.flow
  sid : claim.sid ≡ slice_index planned.turn.cluster.sids k

made : (c : Channel) (place : ℕ) (planned : Planned) (claim : Claim) → claim_on c place planned ≡ Some claim →
    IsMade c planned claim
made c place planned claim is = by (position (λ id. id == c.id) planned.turn.cluster.flow.channels) refl is
  where
    by : (found : Option ℕ) → position (λ id. id == c.id) planned.turn.cluster.flow.channels ≡ found →
        option_and_then (claim_at c place planned) found ≡ Some claim → IsMade c planned claim
    by None at is = let no : None ≡ Some claim = is in absurd cc
    by (Some k) at is = elim (cases_Bool (slice_index planned.shares k == 0)) [
      | inl none ↦ let no : None ≡ Some claim = rw none at is in absurd cc
      | inr some ↦
          let header : ℕ = header_bytes planned.turn.cluster.flow in
          let share : ℕ = slice_index planned.shares k in
          let own : Claim = record {
            claimant = claimant_of planned.turn;
            turn = place;
            position = k;
            sid = slice_index planned.turn.cluster.sids k;
            header = header;
            share = share;
            slots = (grant_cost c.bursts (share + header)).0;
            iuc = (grant_cost c.bursts (share + header)).1;
          } in
          let here : Some own ≡ Some claim = rw some at is in
          let same : claim ≡ own = cc in
          record {
            k = k;
            at = at;
            claimant = ap (λ claim. claim.claimant) same;
            header = ap (λ claim. claim.header) same;
            sid = ap (λ claim. claim.sid) same;
          }
    ]

-- Each claim is of a turn.

-- the SID at a channel's place is the one that stands beside the channel
sid_there : (channel : ℕ) (ids sids : List ℕ) (k : ℕ) → length sids ≡ length ids →
    position (λ id. id == channel) ids ≡ Some k →
    list_any (λ pair. (pair.0 == channel) && (pair.1 == slice_index sids k)) (zip ids sids) ≡ true
sid_there channel [] sids k long at = let no : None ≡ Some k = at in absurd cc
sid_there channel (id ∷ ids) [] k long at = absurd (omega (arith, long))
sid_there channel (id ∷ ids) (sid ∷ sids) k long at = elim (cases_Bool (id == channel)) [
  | inl here ↦
      let found : Some 0 ≡ Some k = sym (first_place (λ i. i == channel) id ids here) ∙ at in
      let start : k ≡ 0 = cc in
      rw start (rw (here, eq-eqb sid sid refl) refl)
  | inr other ↦
      let found : option_map suc (position (λ i. i == channel) ids) ≡ Some k =
      sym (later_place (λ i. i == channel) id ids other) ∙ at in
      by other (λ j at. sid_there channel ids sids j (omega (arith, long)) at)
      (position (λ i. i == channel) ids) refl found
]
  where
    by : (id == channel) ≡ false → ((j : ℕ) → position (λ i. i == channel) ids ≡ Some j →
        list_any (λ pair. (pair.0 == channel) && (pair.1 == slice_index sids j)) (zip ids sids) ≡ true) →
        (found : Option ℕ) → position (λ i. i == channel) ids ≡ found → option_map suc found ≡ Some k →
        list_any (λ pair. (pair.0 == channel) && (pair.1 == slice_index (sid ∷ sids) k)) (zip (id ∷ ids) (sid ∷ sids))
        ≡ true
    by other rest None at is = let no : None ≡ Some k = is in absurd cc
    by other rest (Some j) at is =
        let found : Some (suc j) ≡ Some k = is in
        let next : suc j ≡ k = cc in
        subst (λ n. list_any (λ pair. (pair.0 == channel) && (pair.1 == slice_index (sid ∷ sids) n))
        (zip (id ∷ ids) (sid ∷ sids)) ≡ true) next (rw other (rest j at))

of_turn : (t : Tables) (c : Channel) (place : ℕ) (planned : Planned) (claim : Claim) → AreTables t →
    IsTurnIn t planned.turn → claim_on c place planned ≡ Some claim → IsOfTurn t c claim
of_turn t c place planned claim lawful is at =
    let own = made c place planned claim at in
    let sids = all_at (λ sids. (length sids ≡ length planned.turn.cluster.flow.channels) × AllByRecursion (IsInRange 1 15871) sids)
    planned.turn.cluster.flow.clusters planned.turn.cluster.list planned.turn.cluster.sids
    (flow_of t planned.turn lawful is).sids is.sids in
    record {
      turn = planned.turn;
      known = is;
      claimant = own.claimant;
      header = own.header;
      sid = subst (λ sid. has_sid c.id sid planned.turn.cluster ≡ true) (sym own.sid)
          (sid_there c.id planned.turn.cluster.flow.channels planned.turn.cluster.sids own.k sids.0 own.at);
    }

one_claim : (P : Claim → Type 0) (found : Option Claim) → ((claim : Claim) → found ≡ Some claim → P claim) →
    AllByRecursion P (option_to_list found)
one_claim P None each = tt
one_claim P (Some claim) each = (each claim refl, tt)

of_turns : (t : Tables) (c : Channel) (place : ℕ) (plan : List Planned) → AreTables t →
    AllByRecursion (IsTurnIn t) (map (λ planned. planned.turn) plan) →
    AllByRecursion (IsOfTurn t c) (claims_from c place plan)
unfolding claims_from
of_turns t c place [] lawful all = tt
of_turns t c place (planned ∷ plan) lawful all =
    all-append (IsOfTurn t c) (option_to_list (claim_on c place planned)) (claims_from c (place + 1) plan)
    (one_claim (IsOfTurn t c) (claim_on c place planned) (λ claim at. of_turn t c place planned claim lawful all.0 at))
    (of_turns t c (place + 1) plan lawful all.1)

pub claims_are_of_turns : ClaimsAreOfTurns
claims_are_of_turns t outstanding allowances reserves idle c lawful =
    of_turns t c 0 (plan_for t outstanding allowances reserves idle) lawful
    (subst (AllByRecursion (IsTurnIn t)) (sym (plan_for-turns t outstanding allowances reserves idle)) (turns_of-turns t))

-- No cluster has two.

abbrev one_if : Bool → ℕ
one_if b = cond b 1 0

few_claims : (own number : ℕ) (found : Option Claim) →
    ((claim : Claim) → found ≡ Some claim → claim.claimant.cluster ≡ own) →
    count_by (λ claim. claim.claimant.cluster == number) (option_to_list found) ≤ cond (own == number) 1 0
few_claims own number None each = omega arith
few_claims own number (Some claim) each =
    let same : one_if (claim.claimant.cluster == number) ≡ one_if (own == number) =
    ap (λ cluster. one_if (cluster == number)) (each claim refl) in
    omega (arith, sum_by-cons (λ (claim : Claim). cond (claim.claimant.cluster == number) 1 0) claim [], same)

-- at most as many as it has turns
claims_few : (c : Channel) (place : ℕ) (plan : List Planned) (number : ℕ) →
    count_by (λ claim. claim.claimant.cluster == number) (claims_from c place plan)
    ≤ count_by (λ turn. turn.number == number) (map (λ planned. planned.turn) plan)
unfolding claims_from
claims_few c place [] number = omega arith
claims_few c place (planned ∷ plan) number =
    let here = few_claims planned.turn.number number (claim_on c place planned)
    (λ claim at. ap (λ claimant. claimant.cluster) (made c place planned claim at).claimant) in
    omega (
      arith,
      sum_by-append (λ (claim : Claim). cond (claim.claimant.cluster == number) 1 0)
          (option_to_list (claim_on c place planned)) (claims_from c (place + 1) plan),
      sum_by-cons (λ (turn : Turn). cond (turn.number == number) 1 0) planned.turn
          (map (λ planned. planned.turn) plan),
      here,
      claims_few c (place + 1) plan number,
    )

pub clusters_claim_once : ClustersClaimOnce
clusters_claim_once t outstanding allowances reserves idle c number =
    let turns = ap (λ turns. count_by (λ turn. turn.number == number) turns)
    (plan_for-turns t outstanding allowances reserves idle) in
    omega (
      arith,
      claims_few c 0 (plan_for t outstanding allowances reserves idle) number,
      turns,
      turns_of-once t number,
    )
