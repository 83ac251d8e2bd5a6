-- Placing turn by turn and channel by channel: what happens to one channel is the same.
use Rattle.std.proofs.Common.{◌≡◌, ◌≢◌, ℕ, suc, ◌+◌, ◌==◌, if◌then◌else◌, List, [], ◌∷◌, ◌++◌, map, Option, Some, None, option_map, refl, sym, ap, ap₂, ◌∙◌, subst, inl, inr, eq-eqb, ne_eqb, append-nil, append_assoc, arith}
use Rattle.std.specs.Prelude.{position, option_and_then, option_to_list}
use Rattle.std.specs.List.{AllByRecursion}
use Rattle.std.proofs.lemmas.Bool.{cases_eq}
use Rattle.us_flows.specs.declared.channels.Channel.{Channel}
use Rattle.us_flows.specs.Clusters.{IsTurnIn, Turn, turns_of}
use Rattle.us_flows.specs.Lawful.{AreApart, AreTables, IsFlow}
use Rattle.us_flows.specs.Tables.{Tables}
use Rattle.us_flows.proofs.TurnLaws.{turns_of-turns}
use Rattle.us_holes.specs.Boards.{assign_all}
use Rattle.us_split.specs.Plans.{Planned}
use Rattle.us_split.specs.Claims.{Claim, claim_at, claim_on, claims_from}
use Rattle.us_split.proofs.ChannelShareLemmas.{first_place, later_place}
use Rattle.us_channel.specs.Placements.{PlacedClaim, grant_of, grants_of, assignments, with_grant}
use Rattle.us_channel.specs.Channels.{Filled, Built, ungranted}
use Rattle.us_round.specs.Rounds.{build_planned, builds_of, fills_of, round_plan}
use Rattle.us_round.specs.TurnByTurn.{ByTurnsIsByChannels, RoundsAreByTurns, place_channels, place_share, place_turns, with_claim_on, with_grant_on}
use Rattle.us_output.proofs.PartLemmas.{all_found}
use Rattle.us_round.proofs.SoundLemmas.{by_turns, turns_planned}

-- One channel.

abbrev share_on_one : ℕ → Planned → ℕ → ℕ → Built → Built
share_on_one turn planned at id b = if b.channel.id == id then with_claim_on b (claim_at b.channel turn planned at) else b

unfoldable channels_on_one : ℕ → Planned → ℕ → List ℕ → Built → Built
channels_on_one turn planned at [] b = b
channels_on_one turn planned at (id ∷ ids) b = channels_on_one turn planned (at + 1) ids (share_on_one turn planned at id b)

unfoldable turns_on_one : ℕ → List Planned → Built → Built
turns_on_one turn [] b = b
turns_on_one turn (planned ∷ plan) b =
    turns_on_one (turn + 1) plan (channels_on_one turn planned 0 planned.turn.cluster.flow.channels b)

-- all channels together are each of them alone

twice_mapped : (f g : Built → Built) (bs : List Built) → map f (map g bs) ≡ map (λ b. f (g b)) bs
twice_mapped f g [] = refl
twice_mapped f g (b ∷ bs) = ap (λ more. f (g b) ∷ more) (twice_mapped f g bs)

same_mapped : (bs : List Built) → bs ≡ map (λ b. b) bs
same_mapped [] = refl
same_mapped (b ∷ bs) = ap (λ more. b ∷ more) (same_mapped bs)

channels_mapped : (turn : ℕ) (planned : Planned) (at : ℕ) (ids : List ℕ) (bs : List Built) →
    place_channels turn planned at ids bs ≡ map (channels_on_one turn planned at ids) bs
unfolding place_channels channels_on_one
channels_mapped turn planned at [] bs = same_mapped bs
channels_mapped turn planned at (id ∷ ids) bs =
    channels_mapped turn planned (at + 1) ids (place_share turn planned at id bs) ∙
    twice_mapped (channels_on_one turn planned (at + 1) ids) (share_on_one turn planned at id) bs

turns_mapped : (turn : ℕ) (plan : List Planned) (bs : List Built) →
    place_turns turn plan bs ≡ map (turns_on_one turn plan) bs
unfolding place_turns turns_on_one
turns_mapped turn [] bs = same_mapped bs
turns_mapped turn (planned ∷ plan) bs =
    turns_mapped (turn + 1) plan (place_channels turn planned 0 planned.turn.cluster.flow.channels bs) ∙
    ap (map (turns_on_one (turn + 1) plan)) (channels_mapped turn planned 0 planned.turn.cluster.flow.channels bs) ∙
    twice_mapped (turns_on_one (turn + 1) plan) (channels_on_one turn planned 0 planned.turn.cluster.flow.channels) bs

-- A turn on one channel: its claim there.

grant_channel : (b : Built) (g : Option PlacedClaim) → (with_grant_on b g).channel ≡ b.channel
grant_channel b None = refl
grant_channel b (Some g) = refl

claim_channel : (b : Built) (claim : Option Claim) → (with_claim_on b claim).channel ≡ b.channel
claim_channel b None = refl
claim_channel b (Some claim) = grant_channel b (grant_of b.channel.bursts b.board claim)

-- the claim at a position that is counted from another
abbrev claim_there : Channel → ℕ → Planned → ℕ → Option ℕ → Option Claim
claim_there c turn planned at None = None
claim_there c turn planned at (Some k) = claim_at c turn planned (at + k)

shifted : (c : Channel) (turn : ℕ) (planned : Planned) (at : ℕ) (found : Option ℕ) →
    claim_there c turn planned (at + 1) found ≡ claim_there c turn planned at (option_map suc found)
shifted c turn planned at None = refl
shifted c turn planned at (Some k) =
    let next : at + 1 + k ≡ at + suc k = omega arith in
    ap (claim_at c turn planned) next

absent : (id : ℕ) (ids : List ℕ) → AllByRecursion (λ y. id ≢ y) ids → position (λ i. i == id) ids ≡ None
absent id [] all = refl
absent id (x ∷ xs) all =
    later_place (λ i. i == id) x xs (ne_eqb x id (λ same. all.0 (sym same))) ∙ ap (option_map suc) (absent id xs all.1)

turn_on_one : (turn : ℕ) (planned : Planned) (at : ℕ) (ids : List ℕ) (b : Built) → AreApart ids →
    channels_on_one turn planned at ids b ≡
    with_claim_on b (claim_there b.channel turn planned at (position (λ id. id == b.channel.id) ids))
unfolding channels_on_one
turn_on_one turn planned at [] b apart = refl
turn_on_one turn planned at (id ∷ ids) b apart = elim (cases_eq b.channel.id id) [
  | inl same ↦
      let own : Built = with_claim_on b (claim_at b.channel turn planned at) in
      let kept : own.channel ≡ b.channel = claim_channel b (claim_at b.channel turn planned at) in
      let others : AllByRecursion (λ y. b.channel.id ≢ y) ids = subst (λ n. AllByRecursion (λ y. n ≢ y) ids) (sym same) apart.0 in
      let here : position (λ i. i == b.channel.id) (id ∷ ids) ≡ Some 0 =
      first_place (λ i. i == b.channel.id) id ids (eq-eqb id b.channel.id (sym same)) in
      let none : position (λ i. i == own.channel.id) ids ≡ None =
      ap (λ (c : Channel). position (λ i. i == c.id) ids) kept ∙ absent b.channel.id ids others in
      let rest : channels_on_one turn planned (at + 1) ids own ≡ own =
      turn_on_one turn planned (at + 1) ids own apart.1 ∙
      ap (λ found. with_claim_on own (claim_there own.channel turn planned (at + 1) found)) none in
      let start : at ≡ at + 0 = omega arith in
      rw (eq-eqb b.channel.id id same) (rest ∙
      ap (λ n. with_claim_on b (claim_at b.channel turn planned n)) start ∙
      ap (λ found. with_claim_on b (claim_there b.channel turn planned at found)) (sym here))
  | inr other ↦
      let there : position (λ i. i == b.channel.id) (id ∷ ids) ≡ option_map suc (position (λ i. i == b.channel.id) ids) =
      later_place (λ i. i == b.channel.id) id ids (ne_eqb id b.channel.id (λ same. other (sym same))) in
      rw (ne_eqb b.channel.id id other)
      (turn_on_one turn planned (at + 1) ids b apart.1 ∙
      ap (with_claim_on b) (shifted b.channel turn planned at (position (λ i. i == b.channel.id) ids) ∙
      ap (claim_there b.channel turn planned at) (sym there)))
]

from_start : (c : Channel) (turn : ℕ) (planned : Planned) (found : Option ℕ) →
    claim_there c turn planned 0 found ≡ option_and_then (claim_at c turn planned) found
from_start c turn planned None = refl
from_start c turn planned (Some k) = let start : 0 + k ≡ k = omega arith in ap (claim_at c turn planned) start

-- All turns on one channel: its claims, one after another.

-- a channel with more grants
abbrev with_grants : Built → List PlacedClaim → Built
with_grants b grants = record {
  channel = b.channel;
  board = assign_all b.board (assignments grants);
  calendar = b.calendar;
  settled = b.settled;
  grants = b.grants ++ grants;
}

none_more : (b : Built) → b ≡ with_grants b []
unfolding assign_all
none_more b =
    ap (λ gs. let b : Built = record { channel = b.channel; board = b.board; calendar = b.calendar; settled = b.settled; grants = gs } in b)
    (sym (append-nil b.grants))

one_more : (b : Built) (found : Option PlacedClaim) (grants : List PlacedClaim) →
    with_grants (with_grant_on b found) grants ≡ with_grants b (option_to_list found ++ grants)
unfolding assign_all
one_more b None grants = refl
one_more b (Some g) grants =
    ap (λ gs. let b : Built = record {
      channel = b.channel;
      board = assign_all (with_grant b.board (Some g)) (assignments grants);
      calendar = b.calendar;
      settled = b.settled;
      grants = gs;
    } in b) (append_assoc b.grants (g ∷ []) grants)

claim_more : (b : Built) (claim : Option Claim) (claims : List Claim) →
    with_grants (with_claim_on b claim)
    (grants_of (with_claim_on b claim).channel.bursts (with_claim_on b claim).board claims) ≡
    with_grants b (grants_of b.channel.bursts b.board (option_to_list claim ++ claims))
unfolding grants_of
claim_more b None claims = refl
claim_more b (Some claim) claims = by (grant_of b.channel.bursts b.board claim)
  where
    by : (found : Option PlacedClaim) →
        with_grants (with_grant_on b found)
        (grants_of (with_grant_on b found).channel.bursts (with_grant_on b found).board claims) ≡
        with_grants b (option_to_list found ++ grants_of b.channel.bursts (with_grant b.board found) claims)
    by None = refl
    by (Some g) = one_more b (Some g) (grants_of b.channel.bursts (with_grant b.board (Some g)) claims)

turns_claims : (turn : ℕ) (plan : List Planned) (b : Built) →
    AllByRecursion (λ planned. AreApart planned.turn.cluster.flow.channels) plan →
    turns_on_one turn plan b ≡ with_grants b (grants_of b.channel.bursts b.board (claims_from b.channel turn plan))
unfolding turns_on_one claims_from grants_of
turns_claims turn [] b apart = none_more b
turns_claims turn (planned ∷ plan) b apart =
    let claim : Option Claim = claim_on b.channel turn planned in
    let next : Built = with_claim_on b claim in
    let same : channels_on_one turn planned 0 planned.turn.cluster.flow.channels b ≡ next =
    turn_on_one turn planned 0 planned.turn.cluster.flow.channels b apart.0 ∙
    ap (with_claim_on b) (from_start b.channel turn planned (position (λ id. id == b.channel.id) planned.turn.cluster.flow.channels)) in
    ap (turns_on_one (turn + 1) plan) same ∙
    turns_claims (turn + 1) plan next apart.1 ∙
    ap (λ (c : Channel). with_grants next (grants_of next.channel.bursts next.board (claims_from c (turn + 1) plan))) (claim_channel b claim) ∙
    claim_more b claim (claims_from b.channel (turn + 1) plan)

built_alike : (plan : List Planned) (fs : List Filled) →
    AllByRecursion (λ planned. AreApart planned.turn.cluster.flow.channels) plan →
    map (turns_on_one 0 plan) (map ungranted fs) ≡ map (build_planned plan) fs
unfolding build_planned
built_alike plan [] apart = refl
built_alike plan (f ∷ fs) apart =
    ap₂ (λ b bs. b ∷ bs) (turns_claims 0 plan (ungranted f) apart) (built_alike plan fs apart)

pub by_turns_is_by_channels : ByTurnsIsByChannels
by_turns_is_by_channels plan fs apart = turns_mapped 0 plan (map ungranted fs) ∙ built_alike plan fs apart

-- the flows of a configuration have no channel twice
turns_apart : (t : Tables) (turns : List Turn) → AreTables t → AllByRecursion (IsTurnIn t) turns →
    AllByRecursion (λ turn. AreApart turn.cluster.flow.channels) turns
turns_apart t [] lawful all = tt
turns_apart t (turn ∷ turns) lawful all = (
  (all_found (IsFlow t) t.flows turn.place turn.cluster.flow lawful.flows all.0.flow).apart,
  turns_apart t turns lawful all.1,
)

pub rounds_are_by_turns : RoundsAreByTurns
unfolding builds_of
rounds_are_by_turns state lawful =
    by_turns_is_by_channels (round_plan state) (fills_of state)
    (by_turns (λ turn. AreApart turn.cluster.flow.channels) (round_plan state) (turns_of state.tables) (turns_planned state)
    (turns_apart state.tables (turns_of state.tables) lawful (turns_of-turns state.tables)))
