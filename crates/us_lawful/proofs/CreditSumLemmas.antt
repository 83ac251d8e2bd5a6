-- The bytes that lines of requests credit, as sums over rounds: in each round they are the credits of its grants.
use Rattle.std.proofs.Common.{◌≡◌, ℕ, ◌==◌, eq-eqb, ne_eqb, Bool, true, false, List, length, cond, Some, refl, sym, ap, subst, ◌∙◌, arith, inl, inr}
use Rattle.std.specs.Prelude.{◌&&◌, filter, slice_get, sum_by}
use Rattle.std.specs.List.{AllByRecursion}
use Rattle.std.proofs.lemmas.Bool.{cases_Bool, cases_eq}
use Rattle.us_flows.specs.Tables.{Tables, FlowTable}
use Rattle.us_flows.specs.Clusters.{Turn, IsTurnIn}
use Rattle.us_flows.specs.Lawful.{AreTables}
use Rattle.us_flows.proofs.KeyLaws.{place_of_key}
use Rattle.us_requests.specs.declared.asks.Counts.{Counts}
use Rattle.us_split.specs.Claims.{Claimant, claimant_of}
use Rattle.us_channel.specs.Placements.{PlacedClaim, credits}
use Rattle.us_channel.specs.Channels.{Built}
use Rattle.us_output.specs.declared.rows.Grant.{Grant}
use Rattle.us_output.specs.declared.rows.Row.{Row}
use Rattle.us_round.specs.Rounds.{State, builds_of, all_grants, is_of_cluster, is_of_flow}
use Rattle.us_round.specs.ScheduleLaws.{AreCuts}
use Rattle.us_output.proofs.PartLemmas.{all_weaker}
use Rattle.us_lawful.specs.Runs.{requested_in}
use Rattle.us_lawful.specs.Output.{output_of, judged_of}
use Rattle.us_lawful.proofs.SameLemmas.{sum_filter, sum_flat_map}
use Rattle.us_lawful.proofs.SumLemmas.{sum_same}
use Rattle.us_lawful.proofs.CreditLineLaws.{line_of, of_requested, requested_last, requested_rows, requested_sum}
use Rattle.us_lawful.proofs.ItemLemmas.{sum_zero}
use Rattle.us_lawful.proofs.RoundLemmas.{IsRoundOf, round_rows, rounds_are, rounds_of, rows_in, sum_lines}
use Rattle.us_lawful.proofs.GrantLemmas.{HasClaims, IsTurnGrant, builds_claimed, grants_of_turns, same_cluster}

-- a line is told of these, by its flow's id and the place in the flow, and in these rounds
abbrev pub is_told : (ℕ → ℕ → Bool) → (ℕ → Bool) → Grant → Bool
is_told whose when g = whose g.id g.i && when g.round

-- the bytes that it credits, if it is
abbrev told_bytes : (ℕ → ℕ → Bool) → (ℕ → Bool) → Grant → ℕ
told_bytes whose when g = cond (is_told whose when g) g.credit 0

-- Rounds.

-- the grants that lines of these are of are those that pass
abbrev pub AreOf : (ℕ → ℕ → Bool) → (PlacedClaim → Bool) → State → Type 0
AreOf whose passes s =
    AllByRecursion (λ b. AllByRecursion (λ (g : PlacedClaim). whose g.claimant.flow g.claimant.list ≡ passes g) b.grants)
    (builds_of s)

-- in a round that counts a second test takes nothing away,
in_time : (a b : Bool) (n : ℕ) → b ≡ true → cond (a && b) n 0 ≡ cond a n 0
in_time true b n now = ap (λ b. cond b n 0) now
in_time false b n now = refl

-- so that a channel's lines credit what its grants that pass do;
channel_in_time : (whose : ℕ → ℕ → Bool) (when : ℕ → Bool) (passes : PlacedClaim → Bool) (round : ℕ) (b : Built) →
    AllByRecursion (λ (g : PlacedClaim). whose g.claimant.flow g.claimant.list ≡ passes g) b.grants →
    when round ≡ true →
    sum_by (of_requested (told_bytes whose when)) (rows_in round b)
    ≡ sum_by (λ (g : PlacedClaim). cond (passes g) g.credit 0) b.grants
channel_in_time whose when passes round b are now =
    let f : PlacedClaim → ℕ = λ g. told_bytes whose when (line_of round b.channel g) in
    requested_rows (told_bytes whose when) round b
    ∙ sum_same f (λ (g : PlacedClaim). cond (passes g) g.credit 0) b.grants
    (all_weaker (λ (g : PlacedClaim). whose g.claimant.flow g.claimant.list ≡ passes g)
    (λ (g : PlacedClaim). f g ≡ cond (passes g) g.credit 0)
    (λ g same. in_time (whose g.claimant.flow g.claimant.list) (when round) g.credit now
    ∙ ap (λ p. cond p g.credit 0) same) b.grants are)

-- in one that doesn't it takes all away,
out_of_time : (a b : Bool) (n : ℕ) → b ≡ false → cond (a && b) n 0 ≡ 0
out_of_time true b n later = ap (λ b. cond b n 0) later
out_of_time false b n later = refl

-- so that they credit nothing
channel_out_of_time : (whose : ℕ → ℕ → Bool) (when : ℕ → Bool) (round : ℕ) (b : Built) → when round ≡ false →
    sum_by (of_requested (told_bytes whose when)) (rows_in round b) ≡ 0
channel_out_of_time whose when round b later =
    requested_rows (told_bytes whose when) round b
    ∙ sum_zero (λ g. told_bytes whose when (line_of round b.channel g)) b.grants
    (λ g. out_of_time (whose g.claimant.flow g.claimant.list) (when round) g.credit later)

-- the credits of a round, channel by channel
credits_are : (passes : PlacedClaim → Bool) (bs : List Built) →
    credits passes (all_grants bs)
    ≡ sum_by (λ (b : Built). sum_by (λ (g : PlacedClaim). cond (passes g) g.credit 0) b.grants) bs
credits_are passes bs =
    sum_filter (λ (g : PlacedClaim). g.credit) passes (all_grants bs)
    ∙ sum_flat_map (λ (g : PlacedClaim). cond (passes g) g.credit 0) (λ (b : Built). b.grants) bs

-- the lines of a round credit what its grants do, if it counts
round_bytes : (whose : ℕ → ℕ → Bool) (when : ℕ → Bool) (passes : PlacedClaim → Bool) (s : State) → AreOf whose passes s →
    sum_by (of_requested (told_bytes whose when)) (round_rows s)
    ≡ cond (when s.round) (credits passes (all_grants (builds_of s))) 0
round_bytes whose when passes s are =
    let f : Row → ℕ = of_requested (told_bytes whose when) in
    let bs : List Built = builds_of s in
    elim (cases_Bool (when s.round)) [
      | inl now ↦ rw now (sum_flat_map f (rows_in s.round) bs
          ∙ sum_same (λ b. sum_by f (rows_in s.round b))
          (λ (b : Built). sum_by (λ (g : PlacedClaim). cond (passes g) g.credit 0) b.grants) bs
          (all_weaker
          (λ b. AllByRecursion (λ (g : PlacedClaim). whose g.claimant.flow g.claimant.list ≡ passes g) b.grants)
          (λ (b : Built). sum_by f (rows_in s.round b)
          ≡ sum_by (λ (g : PlacedClaim). cond (passes g) g.credit 0) b.grants)
          (λ b of. channel_in_time whose when passes s.round b of now) bs are)
          ∙ sym (credits_are passes bs))
      | inr later ↦ rw later (sum_flat_map f (rows_in s.round) bs
          ∙ sum_zero (λ b. sum_by f (rows_in s.round b)) bs (λ b. channel_out_of_time whose when s.round b later))
    ]

-- The bytes of all lines that are told so are the credits of the rounds that count.
pub lines_credit : (whose : ℕ → ℕ → Bool) (when : ℕ → Bool) (passes : PlacedClaim → Bool) (t : Tables)
    (cuts : List (List ℕ)) (counts : Counts) → AreTables t → AreCuts t cuts →
    AllByRecursion (AreOf whose passes) (rounds_of t cuts) →
    sum_by (λ (g : Grant). g.credit)
    (filter (is_told whose when) (requested_in (judged_of (output_of t cuts counts)).lines))
    ≡ sum_by (λ (s : State). cond (when s.round) (credits passes (all_grants (builds_of s))) 0) (rounds_of t cuts)
lines_credit whose when passes t cuts counts lawful long are =
    let f : Row → ℕ = of_requested (told_bytes whose when) in
    let lines : List Row = (judged_of (output_of t cuts counts)).lines in
    let by_round : sum_by (λ s. sum_by f (round_rows s)) (rounds_of t cuts)
    ≡ sum_by (λ (s : State). cond (when s.round) (credits passes (all_grants (builds_of s))) 0) (rounds_of t cuts) =
    sum_same (λ s. sum_by f (round_rows s))
    (λ (s : State). cond (when s.round) (credits passes (all_grants (builds_of s))) 0) (rounds_of t cuts)
    (all_weaker (AreOf whose passes)
    (λ (s : State). sum_by f (round_rows s) ≡ cond (when s.round) (credits passes (all_grants (builds_of s))) 0)
    (round_bytes whose when passes) (rounds_of t cuts) are) in
    omega (
      arith,
      sum_filter (λ (g : Grant). g.credit) (is_told whose when) (requested_in lines),
      requested_sum (told_bytes whose when) lines,
      sum_lines f t cuts counts lawful long,
      by_round,
      requested_last (told_bytes whose when) t cuts counts,
    )

-- Whose the grants are.

-- what holds of all turns holds of each grant's claimant
claimants : (t : Tables) (cuts : List (List ℕ)) (P : Claimant → Type 0) → AreTables t → AreCuts t cuts →
    ((turn : Turn) → IsTurnIn t turn → P (claimant_of turn)) →
    AllByRecursion (λ s. AllByRecursion (λ b. AllByRecursion (λ (g : PlacedClaim). P g.claimant) b.grants) (builds_of s))
    (rounds_of t cuts)
claimants t cuts P lawful long each =
    all_weaker (IsRoundOf t (length cuts))
    (λ s. AllByRecursion (λ b. AllByRecursion (λ (g : PlacedClaim). P g.claimant) b.grants) (builds_of s))
    (λ s is. all_weaker (HasClaims t) (λ b. AllByRecursion (λ (g : PlacedClaim). P g.claimant) b.grants)
    (λ b has. all_weaker (IsTurnGrant t b.channel) (λ (g : PlacedClaim). P g.claimant)
    (λ g of. subst P (sym of.claimant) (each of.turn of.known)) b.grants (grants_of_turns t b has))
    (builds_of s) (builds_claimed t (length cuts) s lawful is))
    (rounds_of t cuts) (rounds_are t cuts lawful long)

-- by the id of a flow and the place in it, those of a turn's cluster are those with its number,
pub cluster_grants : (t : Tables) (cuts : List (List ℕ)) (turn : Turn) → AreTables t → AreCuts t cuts → IsTurnIn t turn →
    AllByRecursion
    (AreOf (λ id list. (id == turn.cluster.flow.id) && (list == turn.cluster.list)) (is_of_cluster turn.number))
    (rounds_of t cuts)
cluster_grants t cuts turn lawful long known =
    claimants t cuts
    (λ claimant. ((claimant.flow == turn.cluster.flow.id) && (claimant.list == turn.cluster.list))
    ≡ (claimant.cluster == turn.number)) lawful long
    (λ other is. same_cluster t other turn lawful is known)

-- and by its id, those of a flow are those with its place in the table
pub flow_grants : (t : Tables) (cuts : List (List ℕ)) (place : ℕ) (flow : FlowTable) → AreTables t → AreCuts t cuts →
    slice_get t.flows place ≡ Some flow →
    AllByRecursion (AreOf (λ id list. id == flow.id) (is_of_flow place)) (rounds_of t cuts)
flow_grants t cuts place flow lawful long at =
    claimants t cuts (λ claimant. (claimant.flow == flow.id) ≡ (claimant.place == place)) lawful long (λ other is.
    elim (cases_eq other.place place) [
      | inl same ↦
          let found : Some other.cluster.flow ≡ Some flow = sym is.flow ∙ ap (slice_get t.flows) same ∙ at in
          let one : other.cluster.flow ≡ flow = cc in
          eq-eqb other.cluster.flow.id flow.id (ap (λ (f : FlowTable). f.id) one) ∙ sym (eq-eqb other.place place same)
      | inr apart ↦
          ne_eqb other.cluster.flow.id flow.id (λ same. apart
          (place_of_key (λ (f : FlowTable). f.id) t.flows other.place place other.cluster.flow flow lawful.flows_apart
          is.flow at same)) ∙ sym (ne_eqb other.place place apart)
    ])
