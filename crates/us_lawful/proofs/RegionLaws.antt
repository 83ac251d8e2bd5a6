-- The minislots of every MAP of a schedule are what they must be.
use Rattle.std.proofs.Common.{◌≡◌, ℕ, zero, suc, ◌+◌, ◌*◌, ◌<◌, ◌≤◌, ◌==◌, Bool, true, false, List, [], ◌∷◌, ◌++◌, length, map, Contains, Option, Some, None, option_map, slice_get, refl, sym, ap, subst, ◌∙◌, suc-mul, arith, inl, inr}
use Rattle.std.specs.Prelude.{nat_lt, not, flat_map, sum_by, zip, find, position}
use Rattle.std.specs.List.{AllByRecursion}
use Rattle.std.proofs.lemmas.Bool.{cases_Bool, cases_lt, or_left, or_right, le-ltb, lt-ltb}
use Rattle.std.proofs.lemmas.List.{length-map}
use Rattle.std.proofs.lemmas.List.Folds.{find_at}
use Rattle.std.proofs.lemmas.Option.{get_or_from_slice_get, slice_get-map, slice_get_within}
use Rattle.us_codec.specs.Bodies.{IsMapBody}
use Rattle.us_flows.specs.declared.channels.Channel.{Channel}
use Rattle.us_flows.specs.Tables.{Tables, map_len, channel_with, rounds_fit}
use Rattle.us_flows.specs.Lawful.{AreTables, IsChannel}
use Rattle.us_holes.specs.Boards.{Board}
use Rattle.us_calendar.specs.Entries.{Entry, IsEntry, entries, slots_of}
use Rattle.us_calendar.specs.Settling.{EntryState, heard, opening_state}
use Rattle.us_calendar.specs.Calendars as calendars
use Rattle.us_calendar.specs.Calendars.{Calendar}
use Rattle.us_calendar.specs.Runs.{Round, assignments_of, rounds_on}
use Rattle.us_calendar.specs.Laws.{IsLawfulEntry}
use Rattle.us_calendar.proofs.EntryLaws.{entries_are_lawful}
use Rattle.us_split.specs.Plans.{Planned}
use Rattle.us_split.specs.Claims.{claims_on}
use Rattle.us_channel.specs.Channels.{Built, fill}
use Rattle.us_channel.specs.Laws.{IsMadeOf, placed_on}
use Rattle.us_channel.proofs.BoardLaws.{boards_are_built}
use Rattle.us_requests.specs.declared.asks.Counts.{Counts}
use Rattle.us_round.specs.Rounds.{State, opening, round_plan, build_planned, builds_of, ended, schedule}
use Rattle.us_output.specs.Outputs.{Scheduled, built_map, out_of}
use Rattle.us_output.specs.Leftovers.{IsBuiltFor}
use Rattle.us_round.specs.ScheduleLaws.{AreCuts, HasLawfulMaps, boards_of, settled_at}
use Rattle.us_output.proofs.PartLemmas.{all_found, all_mapped, all_weaker}
use Rattle.us_output.proofs.OwnerLemmas.{HasOwner, HaveOwners, run_owned}
use Rattle.us_round.proofs.ChannelRunLaws.{calendars_run, channels_stay}
use Rattle.us_round.proofs.MapLaws.{maps_are_lawful}
use Rattle.us_round.proofs.ScheduleLaws.{schedule_is_of_begun_rounds}
use Rattle.us_lawful.specs.Runs as runs
use Rattle.us_reports.specs.declared.place.Place.{Place}
use Rattle.us_lawful.specs.Runs.{Judged}
use Rattle.us_lawful.specs.Output.{output_of, round_maps, judged_of, run_of}
use Rattle.us_lawful.specs.Regions.{Region, reserve_regions, grant_regions, regions_of, element_regions, map_regions, told_regions, minislot_holds, channel_holds, regions_hold}
use Rattle.us_lawful.proofs.RoundLemmas.{CountsAt, IsRoundOf, built_at, found_inside, round_at, rounds_are, rounds_long, rounds_of, rows_in, sum_at}
use Rattle.us_lawful.proofs.GrantLemmas.{HasClaims, builds_claimed}
use Rattle.us_lawful.proofs.ChannelRegionLemmas.{AreLinesOf, IsPlacedRound, minislots_hold, placed_have}

-- Lists.

before : {X : Type 0} (xs ys : List X) (i : ℕ) (x : X) → slice_get xs i ≡ Some x → slice_get (xs ++ ys) i ≡ Some x
before [] ys i x at = absurd (cc at)
before (y ∷ xs) ys zero x at = at
before (y ∷ xs) ys (suc i) x at = before xs ys i x at

behind : {X : Type 0} (xs ys : List X) (i : ℕ) → slice_get (xs ++ ys) (length xs + i) ≡ slice_get ys i
behind [] ys i =
    let same : 0 + i ≡ i = omega arith in
    ap (slice_get ys) same
behind (x ∷ xs) ys i =
    let same : length (x ∷ xs) + i ≡ suc (length xs + i) = omega arith in
    ap (slice_get (x ∷ (xs ++ ys))) same ∙ behind xs ys i

-- of lists of `n` items each, one behind another
flat_at : {X Y : Type 0} (f : X → List Y) (n : ℕ) (xs : List X) (i j : ℕ) (x : X) (y : Y) →
    AllByRecursion (λ x. length (f x) ≡ n) xs → slice_get xs i ≡ Some x → slice_get (f x) j ≡ Some y →
    slice_get (flat_map f xs) (i * n + j) ≡ Some y
flat_at f n [] i j x y long at there = absurd (cc at)
flat_at f n (z ∷ xs) zero j x y long at there =
    let same : z ≡ x = cc in
    let first : 0 * n + j ≡ j = omega arith in
    ap (slice_get (f z ++ flat_map f xs)) first
    ∙ before (f z) (flat_map f xs) j y (ap (λ x. slice_get (f x) j) same ∙ there)
flat_at f n (z ∷ xs) (suc i) j x y long at there =
    let later : suc i * n + j ≡ length (f z) + (i * n + j) = omega (arith, long.0, suc-mul i n) in
    ap (slice_get (f z ++ flat_map f xs)) later ∙ behind (f z) (flat_map f xs) (i * n + j)
    ∙ flat_at f n xs i j x y long.1 at there

-- Channels by their ids.

found_passes : {X : Type 0} (p : X → Bool) (xs : List X) (x : X) → find p xs ≡ Some x → p x ≡ true
found_passes p [] x found = absurd (cc found)
found_passes p (y ∷ xs) x found = elim (cases_Bool (p y)) [
  | inl is ↦
      let first : Some y ≡ Some x = rw is at found in
      let same : y ≡ x = cc in
      subst (λ x. p x ≡ true) same is
  | inr out ↦
      let later : find p xs ≡ Some x = rw out at found in
      found_passes p xs x later
]

-- what is found stands at its position
found_place : {X : Type 0} (p : X → Bool) (xs : List X) (x : X) → find p xs ≡ Some x →
    (place : ℕ) × (slice_get xs place ≡ Some x) × (position p xs ≡ Some place)
found_place p xs x found =
    let at = sym (find_at p xs) ∙ found in
    (_, at, rw (lt-ltb _ _ (slice_get_within xs _ x at)) refl)

-- Rounds.

-- a round of the schedule
scheduled_at : (t : Tables) (cuts : List (List ℕ)) (r : ℕ) (s : State) → slice_get (rounds_of t cuts) r ≡ Some s →
    slice_get (schedule (opening t) cuts) r ≡ Some (ended s (builds_of s)).scheduled
scheduled_at t cuts r s at =
    ap (λ rounds. slice_get rounds r) (schedule_is_of_begun_rounds (opening t) cuts)
    ∙ slice_get-map (λ s. (ended s (builds_of s)).scheduled) (rounds_of t cuts) r
    ∙ ap (option_map (λ s. (ended s (builds_of s)).scheduled)) at

-- a round has a channel for each of the table
builds_long : (t : Tables) (end : ℕ) (s : State) → IsRoundOf t end s → length (builds_of s) ≡ length t.channels
builds_long t end s is =
    sym (length-map (builds_of s) (λ b. b.channel))
    ∙ ap length (channels_stay s is.state ∙ ap (λ (u : Tables). u.channels) is.tables)

-- MAPs.

-- so has the output a MAP for each
maps_long : (t : Tables) (cuts : List (List ℕ)) → AreTables t → AreCuts t cuts →
    AllByRecursion (λ out. length (round_maps out) ≡ length t.channels) (map (out_of t) (schedule (opening t) cuts))
unfolding out_of
maps_long t cuts lawful long =
    let HasEach : Scheduled → Type 0 = λ one. length (round_maps (out_of t one)) ≡ length t.channels in
    let each : (s : State) → IsRoundOf t (length cuts) s → HasEach (ended s (builds_of s)).scheduled =
    (λ s is. let one : Scheduled = (ended s (builds_of s)).scheduled in
    length-map (map (built_map t one.round one.pending) one.channels) (λ body. record { round = one.round; body = body })
    ∙ length-map one.channels (built_map t one.round one.pending) ∙ builds_long t (length cuts) s is) in
    all_mapped (λ out. length (round_maps out) ≡ length t.channels) (out_of t) (schedule (opening t) cuts)
    (subst (AllByRecursion HasEach) (sym (schedule_is_of_begun_rounds (opening t) cuts))
    (all_mapped HasEach (λ s. (ended s (builds_of s)).scheduled) (rounds_of t cuts)
    (all_weaker (IsRoundOf t (length cuts)) (λ s. HasEach (ended s (builds_of s)).scheduled) each (rounds_of t cuts)
    (rounds_are t cuts lawful long))))

-- the MAP of a round's channel stands by round and by channel
map_at : (t : Tables) (cuts : List (List ℕ)) (counts : Counts) → AreTables t → AreCuts t cuts → (r place : ℕ) (s : State)
    (b : Built) → slice_get (rounds_of t cuts) r ≡ Some s → slice_get (builds_of s) place ≡ Some b →
    slice_get (judged_of (output_of t cuts counts)).maps (r * length t.channels + place)
    ≡ Some (record { round = s.round; body = built_map t s.round (ended s (builds_of s)).scheduled.pending b })
unfolding output_of out_of
map_at t cuts counts lawful long r place s b at there =
    let one : Scheduled = (ended s (builds_of s)).scheduled in
    let told : List Scheduled = schedule (opening t) cuts in
    let body = built_map t one.round one.pending in
    flat_at round_maps (length t.channels) (map (out_of t) told) r place (out_of t one)
    (record { round = one.round; body = body b }) (maps_long t cuts lawful long)
    (slice_get-map (out_of t) told r ∙ ap (option_map (out_of t)) (scheduled_at t cuts r s at))
    (slice_get-map (λ body. record { round = one.round; body = body }) (map body one.channels) place
    ∙ ap (option_map (λ body. record { round = one.round; body = body }))
    (slice_get-map body one.channels place ∙ ap (option_map body) there))

-- and is lawful
body_lawful : (t : Tables) (cuts : List (List ℕ)) → AreTables t → AreCuts t cuts → rounds_fit t (length cuts) ≡ true →
    (r place : ℕ) (s : State) (b : Built) → slice_get (rounds_of t cuts) r ≡ Some s →
    slice_get (builds_of s) place ≡ Some b →
    IsMapBody (built_map t s.round (ended s (builds_of s)).scheduled.pending b)
body_lawful t cuts lawful long fits r place s b at there =
    let one : Scheduled = (ended s (builds_of s)).scheduled in
    let maps : HasLawfulMaps t one =
    all_found (HasLawfulMaps t) (schedule (opening t) cuts) r one (maps_are_lawful t cuts lawful long fits)
    (scheduled_at t cuts r s at) in
    all_found (λ b. IsMapBody (built_map t one.round one.pending b)) one.channels place b maps.1 there

-- What calendars grant has minislots.

-- calendars that hear keep their entries
states_heard : (cut : List ℕ) (states : List EntryState) → AllByRecursion HasOwner states →
    AllByRecursion HasOwner (map (heard cut) states)
states_heard cut [] known = tt
states_heard cut (state ∷ states) known = (known.0, states_heard cut states known.1)

rounds_have : (calendar : Calendar) (cuts : List (List ℕ)) (boards : List Board) →
    AllByRecursion HasOwner calendar.states →
    AllByRecursion (λ round. HaveOwners (flat_map assignments_of round.settled)) (rounds_on calendar cuts boards)
rounds_have calendar [] boards known = tt
rounds_have calendar (cut ∷ cuts) [] known = tt
rounds_have calendar (cut ∷ cuts) (board ∷ boards) known =
    let told = run_owned calendar.pace calendar.next_round (map (heard cut) calendar.states) board
    (states_heard cut calendar.states known) in
    (told.1, rounds_have (calendars.after calendar cut board) cuts boards told.0)

has_minislots : (e : Entry) (active : Bool) → IsEntry e → 1 ≤ slots_of e active
has_minislots e true is = is.slots
has_minislots e false is = is.poll

opening_known : (t : Tables) (c : Channel) → AreTables t → Contains t.channels c →
    AllByRecursion HasOwner (calendars.opening t c).states
opening_known t c lawful has =
    all_mapped HasOwner opening_state (entries t c)
    (all_weaker (IsLawfulEntry t c) (λ e. HasOwner (opening_state e))
    (λ e is. (is.entry.owner, λ active. has_minislots e active is.entry)) (entries t c)
    (entries_are_lawful t lawful c has))

pub settled_have : (t : Tables) (cuts : List (List ℕ)) → AreTables t → (r place : ℕ) (c : Channel) (s : State) (b : Built) →
    slice_get t.channels place ≡ Some c → slice_get (rounds_of t cuts) r ≡ Some s →
    slice_get (builds_of s) place ≡ Some b → HaveOwners (flat_map assignments_of b.settled)
settled_have t cuts lawful r place c s b is at there =
    let one : Scheduled = (ended s (builds_of s)).scheduled in
    let rounds : List Round = rounds_on (calendars.opening t c) cuts (boards_of t c (length cuts)) in
    let own : settled_at place one ≡ b.settled =
    get_or_from_slice_get (map (λ b. b.settled) (builds_of s)) place b.settled []
    (slice_get-map (λ b. b.settled) (builds_of s) place ∙ ap (option_map (λ b. b.settled)) there) in
    let told : slice_get (map (λ (round : Round). round.settled) rounds) r ≡ Some b.settled =
    ap (λ all. slice_get all r) (sym (calendars_run t cuts place c is))
    ∙ slice_get-map (settled_at place) (schedule (opening t) cuts) r
    ∙ ap (option_map (settled_at place)) (scheduled_at t cuts r s at) ∙ ap Some own in
    let has : Contains t.channels c =
    (place, slice_get_within t.channels place c is, get_or_from_slice_get t.channels place c c is) in
    all_found (λ all. HaveOwners (flat_map assignments_of all)) (map (λ (round : Round). round.settled) rounds) r b.settled
    (all_mapped (λ all. HaveOwners (flat_map assignments_of all)) (λ (round : Round). round.settled) rounds
    (rounds_have (calendars.opening t c) cuts (boards_of t c (length cuts)) (opening_known t c lawful has))) told

-- Boards are made of what is placed.

boards_made : (t : Tables) (round : ℕ) (plan : List Planned) (channels : List Channel) (cs : List Calendar) →
    AllByRecursion (IsChannel t) channels →
    AllByRecursion (λ b. IsMadeOf (placed_on t round b) (map_len t b.channel) b.board)
    (map (build_planned plan) (map (λ (pair : Channel × Calendar). fill t round pair.0 pair.1) (zip channels cs)))
unfolding build_planned
boards_made t round plan [] cs lawful = tt
boards_made t round plan (c ∷ channels) [] lawful = tt
boards_made t round plan (c ∷ channels) (calendar ∷ cs) lawful = (
  boards_are_built t c round calendar (claims_on c plan) lawful.0,
  boards_made t round plan channels cs lawful.1,
)

builds_made : (t : Tables) (end : ℕ) (s : State) → AreTables t → IsRoundOf t end s →
    AllByRecursion (λ b. IsMadeOf (placed_on t s.round b) (map_len t b.channel) b.board) (builds_of s)
unfolding builds_of
builds_made t end s lawful is =
    subst (λ u. AllByRecursion (λ b. IsMadeOf (placed_on u s.round b) (map_len u b.channel) b.board) (builds_of s)) is.tables
    (boards_made s.tables s.round (round_plan s) s.tables.channels s.calendars
    (subst AreTables (sym is.tables) lawful).channels)

-- One channel of a round.

pub placed_round : (t : Tables) (cuts : List (List ℕ)) → AreTables t → AreCuts t cuts → rounds_fit t (length cuts) ≡ true →
    (r place : ℕ) (c : Channel) (s : State) (b : Built) → slice_get t.channels place ≡ Some c →
    slice_get (rounds_of t cuts) r ≡ Some s → slice_get (builds_of s) place ≡ Some b →
    IsPlacedRound t s.round (ended s (builds_of s)).scheduled.pending b
placed_round t cuts lawful long fits r place c s b known at there =
    let end : ℕ = length cuts in
    let is : IsRoundOf t end s = all_found (IsRoundOf t end) (rounds_of t cuts) r s (rounds_are t cuts lawful long) at in
    let claims : HasClaims t b = all_found (HasClaims t) (builds_of s) place b (builds_claimed t end s lawful is) there in
    record {
      built = all_found (IsBuiltFor t) (builds_of s) place b
          (subst (λ u. AllByRecursion (IsBuiltFor u) (builds_of s)) is.tables is.sound.boards) there;
      made = all_found (λ b. IsMadeOf (placed_on t s.round b) (map_len t b.channel) b.board) (builds_of s) place b
          (builds_made t end s lawful is) there;
      some = placed_have t s.round b claims.claims (settled_have t cuts lawful r place c s b known at there) claims.grants;
      body = body_lawful t cuts lawful long fits r place s b at there;
    }

-- each of its minislots is what it must be
channel_spans : (t : Tables) (cuts : List (List ℕ)) (counts : Counts) → AreTables t → AreCuts t cuts →
    rounds_fit t (length cuts) ≡ true → (r place : ℕ) (c : Channel) (at : ℕ) → r < length cuts →
    slice_get t.channels place ≡ Some c →
    minislot_holds c (map_len t c) (regions_of (run_of t cuts counts) (judged_of (output_of t cuts counts)) r c)
    (told_regions (run_of t cuts counts) (judged_of (output_of t cuts counts)) r (Some place)) at ≡ true
channel_spans t cuts counts lawful long fits r place c at inside known =
    let judged : Judged = judged_of (output_of t cuts counts) in
    let begun = found_inside (rounds_of t cuts) r (subst (λ n. r < n) (sym (rounds_long t cuts)) inside) in
    let s : State = begun.0 in
    let is : IsRoundOf t (length cuts) s =
    all_found (IsRoundOf t (length cuts)) (rounds_of t cuts) r s (rounds_are t cuts lawful long) begun.1 in
    let found = built_at t (length cuts) s place c is known in
    let b : Built = found.0 in
    let pending = (ended s (builds_of s)).scheduled.pending in
    let number : s.round ≡ r = round_at t cuts r s begun.1 in
    let lines : AreLinesOf s.round b judged.lines =
    (λ f only. sum_at f t cuts counts lawful long r place s b begun.1 found.1
    (subst (λ n. CountsAt n b.channel.id f) number only) ∙ ap (λ n. sum_by f (rows_in n b)) (sym number)) in
    let Holds : Channel → ℕ → List Region → Type 0 = λ c n pieces.
    minislot_holds c (map_len t c) (reserve_regions t n c ++ grant_regions n c.id judged.lines) pieces at ≡ true in
    let holds : Holds b.channel s.round (element_regions (built_map t s.round pending b).elements) =
    minislots_hold t s.round pending b judged.lines at
    (placed_round t cuts lawful long fits r place c s b known begun.1 found.1) lines in
    let pieces : told_regions (run_of t cuts counts) judged r (Some place)
    ≡ element_regions (built_map t s.round pending b).elements =
    ap map_regions (map_at t cuts counts lawful long r place s b begun.1 found.1) in
    subst (λ c. Holds c r (told_regions (run_of t cuts counts) judged r (Some place))) found.2
    (subst (λ n. Holds b.channel n (told_regions (run_of t cuts counts) judged r (Some place))) number
    (subst (Holds b.channel s.round) (sym pieces) holds))

found_spans : (t : Tables) (cuts : List (List ℕ)) (counts : Counts) → AreTables t → AreCuts t cuts →
    rounds_fit t (length cuts) ≡ true → (p : Place) → p.round < length cuts → (found : Option Channel) →
    channel_with t.channels p.channel ≡ found →
    channel_holds (run_of t cuts counts) (judged_of (output_of t cuts counts)) p found ≡ true
found_spans t cuts counts lawful long fits p inside None known = refl
found_spans t cuts counts lawful long fits p inside (Some c) known =
    let run : runs.Run = run_of t cuts counts in
    let judged : Judged = judged_of (output_of t cuts counts) in
    let at = found_place (λ (other : Channel). other.id == p.channel) t.channels c known in
    ap (λ place. minislot_holds c (map_len t c) (regions_of run judged p.round c) (told_regions run judged p.round place) p.third)
    at.2
    ∙ channel_spans t cuts counts lawful long fits p.round at.0 c p.third inside at.1

-- At each place the MAPs of a schedule hold what its lines and its reserves say.
pub regions_are_lawful : (t : Tables) (cuts : List (List ℕ)) (counts : Counts) → AreTables t → AreCuts t cuts →
    rounds_fit t (length cuts) ≡ true → (p : Place) →
    regions_hold (run_of t cuts counts) (judged_of (output_of t cuts counts)) p ≡ true
regions_are_lawful t cuts counts lawful long fits p =
    let holds : Option Channel → Bool = channel_holds (run_of t cuts counts) (judged_of (output_of t cuts counts)) p in
    let known : Option Channel = channel_with t.channels p.channel in
    elim (cases_lt p.round (length cuts)) [
      | inl inside ↦ or_right (not (nat_lt p.round (length cuts))) (holds known)
          (found_spans t cuts counts lawful long fits p inside known refl)
      | inr past ↦ or_left (not (nat_lt p.round (length cuts))) (holds known)
          (ap not (le-ltb p.round (length cuts) past))
    ]
