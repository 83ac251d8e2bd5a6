-- The MAP of every channel in every round is lawful.
use Rattle.std.proofs.Common.{◌≡◌, ℕ, ◌+◌, ◌*◌, ◌^◌, ◌<◌, ◌≤◌, ◌==◌, ◌&&◌, nat_lt, nat_le, Bool, true, false, if◌then◌else◌, List, [], ◌∷◌, length, map, zip, Option, Some, None, IfSome, slice_get, slice_index, filter_map, Contains, sym, subst, arith}
use Rattle.std.specs.List.{AllByRecursion, cons_option}
use Rattle.std.proofs.lemmas.Bool.{and_parts, leb-true}
use Rattle.std.proofs.lemmas.Nat.{mul-le}
use Rattle.us_codec.specs.Bodies.{IsMapBody}
use Rattle.us_flows.specs.declared.channels.Channel.{Channel}
use Rattle.us_flows.specs.Tables.{Tables, map_len, max_run_ticks}
use Rattle.us_flows.specs.Clusters.{Turn, IsTurnIn, turns_of}
use Rattle.us_flows.specs.Lawful.{AreTables, IsChannel}
use Rattle.us_flows.proofs.TurnLaws.{turns_of-turns}
use Rattle.us_bucket.specs.Levels.{bytes_in, reserve_in}
use Rattle.us_holes.specs.Boards.{Board, IsOwner}
use Rattle.us_holes.proofs.LawLemmas.{assign_all-is_board}
use Rattle.us_calendar.specs.Entries.{Entry, IsEntry, entries}
use Rattle.us_calendar.specs.Settling.{EntryState, heard, opening_state}
use Rattle.us_calendar.specs.Calendars as calendars
use Rattle.us_calendar.specs.Calendars.{Calendar, heard_by}
use Rattle.us_calendar.specs.Laws.{IsLawfulEntry}
use Rattle.us_calendar.proofs.EntryLaws.{entries_are_lawful}
use Rattle.us_calendar.proofs.FitLaws as calendar_laws
use Rattle.us_split.specs.Plans.{Planned}
use Rattle.us_split.specs.Claims.{Claim, IsClaimOn, AreClaims, claims_on}
use Rattle.us_split.proofs.ClaimLemmas.{plan_for-claims}
use Rattle.us_channel.specs.Reserves.{reserves}
use Rattle.us_channel.specs.Placements.{PlacedClaim, assignments, credits, grants_of}
use Rattle.us_channel.specs.Channels.{Filled, fill}
use Rattle.us_channel.specs.Laws.{HasMinislots}
use Rattle.us_channel.proofs.GrantLaws as grant_laws
use Rattle.us_round.specs.Rounds.{State, opening, begun, fills_of, idle, round_plan, build_planned, builds_of, all_grants, is_of_cluster, uncredited, ended, pending_sid, pending_sids, round_from, round_of}
use Rattle.us_output.specs.Outputs.{first_sid, built_map}
use Rattle.us_output.specs.Leftovers.{IsBuiltFor}
use Rattle.us_round.specs.States.{IsState}
use Rattle.us_round.specs.ScheduleLaws.{begun_rounds, HasLawfulMaps, MapsAreLawful}
use Rattle.us_output.proofs.PartLemmas.{all_both, all_contained, all_found, all_mapped, all_weaker}
use Rattle.us_output.proofs.PendingLemmas.{known_sids}
use Rattle.us_round.proofs.CreditLaws.{claims_some}
use Rattle.us_output.proofs.MapLemmas.{IsMade, IsSmall, map_lawful}
use Rattle.us_output.proofs.OwnerLemmas.{HasOwner, HaveOwners, IsOwnedPart, all_assigned, grants_owned, reserves_board, reserves_owned, run_owned}
use Rattle.us_round.proofs.ScheduleLaws.{IsBegunIn, opening_begun, schedule_is_of_begun_rounds, state_idle, state_sound}

-- Pendings.

first_small : (ids sids : List ℕ) → AllByRecursion (λ sid. sid < 2 ^ 14) sids → IfSome (slice_get (zip ids sids) 0) IsSmall
first_small [] sids all = tt
first_small (id ∷ ids) [] all = tt
first_small (id ∷ ids) (sid ∷ sids) all = all.0

pending_small : (t : Tables) (grants : List PlacedClaim) (left : List ℕ) (turn : Turn) → AreTables t → IsTurnIn t turn →
    IfSome (pending_sid grants left turn) IsSmall
pending_small t grants left turn lawful is =
    by (nat_lt 0 (slice_index left turn.number) && (credits (is_of_cluster turn.number) grants == 0))
  where
    by : (asks : Bool) → IfSome (if asks then first_sid turn else None) IsSmall
    by true =
        first_small turn.cluster.flow.channels turn.cluster.sids
        (all_found (λ sids. AllByRecursion (λ sid. sid < 2 ^ 14) sids) turn.cluster.flow.clusters turn.cluster.list
        turn.cluster.sids (known_sids t turn.place turn.cluster.flow lawful is.flow) is.sids)
    by false = tt

all_found_small : (found : Option (ℕ × ℕ)) (more : List (ℕ × ℕ)) → IfSome found IsSmall → AllByRecursion IsSmall more →
    AllByRecursion IsSmall (cons_option found more)
all_found_small None more is all = all
all_found_small (Some one) more is all = (is, all)

pendings_small : (t : Tables) (grants : List PlacedClaim) (left : List ℕ) (turns : List Turn) → AreTables t →
    AllByRecursion (IsTurnIn t) turns → AllByRecursion IsSmall (pending_sids grants left turns)
unfolding pending_sids
pendings_small t grants left [] lawful all = tt
pendings_small t grants left (turn ∷ turns) lawful all =
    all_found_small (pending_sid grants left turn) (filter_map (pending_sid grants left) turns)
    (pending_small t grants left turn lawful all.0) (pendings_small t grants left turns lawful all.1)

-- One channel.

abbrev AreKnown : Calendar → Type 0
AreKnown calendar = AllByRecursion HasOwner calendar.states

filled_made : (t : Tables) (round : ℕ) (c : Channel) (calendar : Calendar) → IsChannel t c → AreKnown calendar →
    IsMade (fill t round c calendar).board
filled_made t round c calendar lawful known =
    let board : Board = reserves c (map_len t c) round in
    let fitting = calendar_laws.grants_fit calendar.pace calendar.next_round calendar.states board in
    let told = (run_owned calendar.pace calendar.next_round calendar.states board known).1 in
    subst IsMade (sym fitting.0) (
      assign_all-is_board board _ (reserves_board t c round lawful) fitting.1
          (all_weaker IsOwnedPart (λ a. 0 < a.slots) (λ a has. has.1) _ told),
      all_assigned board _ (reserves_owned c (map_len t c) round) told,
    )

built_made : (t : Tables) (plan : List Planned) (f : Filled) → IsChannel t f.channel → IsMade f.board →
    AllByRecursion (IsClaimOn f.channel) (claims_on f.channel plan) → IsMade (build_planned plan f).board
unfolding build_planned
built_made t plan f lawful made claims =
    let cs : List Claim = claims_on f.channel plan in
    let gs : List PlacedClaim = grants_of f.channel.bursts f.board cs in
    let granted = grant_laws.grants_are f.channel.bursts f.board cs lawful.bursts (claims_some f.channel plan) in
    let small : AllByRecursion (λ claim. claim.sid < 2 ^ 14) cs =
    all_weaker (IsClaimOn f.channel) (λ claim. claim.sid < 2 ^ 14) (λ claim is. is.sid) cs claims in
    let owned : HaveOwners (assignments gs) = grants_owned f.channel.bursts f.board cs gs granted small in (
      assign_all-is_board f.board (assignments gs) made.0 (grant_laws.grants_fit f.channel.bursts f.board cs gs granted)
          (all_weaker IsOwnedPart (λ a. 0 < a.slots) (λ a has. has.1) (assignments gs) owned),
      all_assigned f.board (assignments gs) made.1 owned,
    )

-- All channels.

builds_made : (t : Tables) (round : ℕ) (plan : List Planned) (channels : List Channel) (cs : List Calendar) →
    AllByRecursion (IsChannel t) channels → AllByRecursion AreKnown cs →
    AllByRecursion (λ c. AllByRecursion (IsClaimOn c) (claims_on c plan)) channels →
    AllByRecursion (λ b. IsMade b.board)
    (map (build_planned plan) (map (λ (pair : Channel × Calendar). fill t round pair.0 pair.1) (zip channels cs)))
builds_made t round plan [] cs lawful known claims = tt
builds_made t round plan (c ∷ channels) [] lawful known claims = tt
builds_made t round plan (c ∷ channels) (calendar ∷ cs) lawful known claims = (
  built_made t plan (fill t round c calendar) lawful.0 (filled_made t round c calendar lawful.0 known.0) claims.0,
  builds_made t round plan channels cs lawful.1 known.1 claims.1,
)

-- calendars keep their entries
calendars_known : (t : Tables) (round : ℕ) (plan : List Planned) (channels : List Channel) (cs : List Calendar) →
    AllByRecursion AreKnown cs →
    AllByRecursion AreKnown (map (λ b. b.calendar)
    (map (build_planned plan) (map (λ (pair : Channel × Calendar). fill t round pair.0 pair.1) (zip channels cs))))
unfolding build_planned
calendars_known t round plan [] cs known = tt
calendars_known t round plan (c ∷ channels) [] known = tt
calendars_known t round plan (c ∷ channels) (calendar ∷ cs) known = (
  (run_owned calendar.pace calendar.next_round calendar.states (reserves c (map_len t c) round) known.0).0,
  calendars_known t round plan channels cs known.1,
)

-- so they do where they hear
states_heard : (cut : List ℕ) (states : List EntryState) → AllByRecursion HasOwner states →
    AllByRecursion HasOwner (map (heard cut) states)
states_heard cut [] known = tt
states_heard cut (state ∷ states) known = (known.0, states_heard cut states known.1)

heard_known : (cut : List ℕ) (cs : List Calendar) → AllByRecursion AreKnown cs →
    AllByRecursion AreKnown (map (heard_by cut) cs)
heard_known cut [] known = tt
heard_known cut (calendar ∷ cs) known = (states_heard cut calendar.states known.0, heard_known cut cs known.1)

-- All rounds.

all_known : (s : State) (cuts : List (List ℕ)) → AllByRecursion AreKnown s.calendars →
    AllByRecursion (λ (b : State). AllByRecursion AreKnown b.calendars) (begun_rounds s cuts)
unfolding begun_rounds round_of round_from builds_of
all_known s [] known = tt
all_known s (cut ∷ cuts) known =
    let now : State = begun s cut in
    let heard : AllByRecursion AreKnown now.calendars = heard_known cut s.calendars known in (
      heard,
      all_known (round_of s cut).state cuts
          (calendars_known s.tables s.round (round_plan now) s.tables.channels now.calendars heard),
    )

-- the MAPs of a round
state_maps : (s : State) → AreTables s.tables → IsState s → AllByRecursion AreKnown s.calendars →
    s.round * s.tables.round_ticks ≤ max_run_ticks →
    AllByRecursion (λ b. IsMapBody (built_map s.tables s.round (ended s (builds_of s)).scheduled.pending b)) (builds_of s)
unfolding builds_of
state_maps s lawful is known time =
    let pending : List (ℕ × ℕ) = (ended s (builds_of s)).scheduled.pending in
    let grants : List PlacedClaim = all_grants (builds_of s) in
    let claims : AreClaims s.tables (round_plan s) =
    plan_for-claims s.tables s.outstanding (map bytes_in s.buckets) (map reserve_in s.reserves) (idle (fills_of s)) lawful
    (state_idle s lawful is) in
    let made : AllByRecursion (λ b. IsMade b.board) (builds_of s) =
    builds_made s.tables s.round (round_plan s) s.tables.channels s.calendars lawful.channels known claims.each in
    let small : AllByRecursion IsSmall pending =
    pendings_small s.tables grants (uncredited grants 0 s.outstanding) (turns_of s.tables) lawful
    (turns_of-turns s.tables) in
    all_weaker (λ b. IsBuiltFor s.tables b × IsMade b.board) (λ b. IsMapBody (built_map s.tables s.round pending b))
    (λ b both. map_lawful s.tables s.round pending b both.0 both.1 time small) (builds_of s)
    (all_both (IsBuiltFor s.tables) (λ b. IsMade b.board) (builds_of s) (state_sound s lawful is).boards made)

abbrev IsKnownIn : Tables → ℕ → State → Type 0
IsKnownIn t end s = IsBegunIn t end s × AllByRecursion AreKnown s.calendars

round_maps : (t : Tables) (end : ℕ) → AreTables t → end * t.round_ticks ≤ max_run_ticks → (s : State) →
    IsKnownIn t end s → HasLawfulMaps t (ended s (builds_of s)).scheduled
round_maps t end lawful time s is =
    let same : s.tables ≡ t = is.0.tables in
    let before : s.round < end = is.0.before in
    let least : end * 1 ≤ end * t.round_ticks = mul-le end 1 end t.round_ticks (omega arith) lawful.round_ticks.0 in
    let less : s.round * t.round_ticks ≤ end * t.round_ticks =
    mul-le s.round t.round_ticks end t.round_ticks (omega (arith, before)) (omega arith) in
    let early : s.round * t.round_ticks ≤ max_run_ticks = omega (arith, less, time) in
    let early_there : s.round * s.tables.round_ticks ≤ max_run_ticks =
    subst (λ (u : Tables). s.round * u.round_ticks ≤ max_run_ticks) (sym same) early in
    subst (λ u. HasLawfulMaps u (ended s (builds_of s)).scheduled) same (
      omega (arith, before, least, time),
      state_maps s (subst AreTables (sym same) lawful) is.0.state is.1 early_there,
    )

-- an entry has a lawful owner, and its grants and polls have a minislot
abbrev IsServed : Entry → Type 0
IsServed e = IsOwner e.owner × HasMinislots e

has_minislots : (e : Entry) → IsEntry e → HasMinislots e
has_minislots e is true = is.slots
has_minislots e is false = is.poll

served : (t : Tables) → AreTables t → (c : Channel) → Contains t.channels c → AllByRecursion IsServed (entries t c)
served t lawful c has =
    all_weaker (IsLawfulEntry t c) IsServed (λ e is. (is.entry.owner, has_minislots e is.entry)) (entries t c)
    (entries_are_lawful t lawful c has)

opening_known : (t : Tables) (channels : List Channel) →
    AllByRecursion (λ c. AllByRecursion IsServed (entries t c)) channels →
    AllByRecursion AreKnown (map (calendars.opening t) channels)
opening_known t [] have = tt
opening_known t (c ∷ channels) have = (
  all_mapped HasOwner opening_state (entries t c) have.0,
  opening_known t channels have.1,
)

pub maps_are_lawful : MapsAreLawful
maps_are_lawful t cuts lawful long fits =
    let end : ℕ = 0 + length cuts in
    let rounds : List State = begun_rounds (opening t) cuts in
    let same : length cuts ≡ end = omega arith in
    let time : end * t.round_ticks ≤ max_run_ticks =
    subst (λ n. n * t.round_ticks ≤ max_run_ticks) same (leb-true (length cuts * t.round_ticks) max_run_ticks
    (and_parts (nat_le 1 (length cuts)) (nat_le (length cuts * t.round_ticks) max_run_ticks) fits).1) in
    let have = all_contained (λ c. AllByRecursion IsServed (entries t c)) t.channels (served t lawful) in
    let known : AllByRecursion (λ (s : State). AllByRecursion AreKnown s.calendars) rounds =
    all_known (opening t) cuts (opening_known t t.channels have) in
    subst (AllByRecursion (HasLawfulMaps t)) (sym (schedule_is_of_begun_rounds (opening t) cuts))
    (all_mapped (HasLawfulMaps t) (λ s. (ended s (builds_of s)).scheduled) rounds
    (all_weaker (IsKnownIn t end) (λ s. HasLawfulMaps t (ended s (builds_of s)).scheduled)
    (round_maps t end lawful time) rounds
    (all_both (IsBegunIn t end) (λ s. AllByRecursion AreKnown s.calendars) rounds (opening_begun t cuts long) known)))
