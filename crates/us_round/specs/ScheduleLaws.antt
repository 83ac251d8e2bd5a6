-- Laws of the schedule: what holds of each of its rounds.
use Rattle.std.specs.Prelude.{◌≡◌, ℕ, ◌+◌, ◌^◌, ◌<◌, true, List, [], ◌∷◌, length, map, sum_by, slice_get, slice_index, slice_index_or, Some}
use Rattle.std.specs.List.{AllByRecursion, range_with_len}
use Rattle.us_codec.specs.Bodies.{IsMapBody}
use Rattle.us_flows.specs.declared.channels.Channel.{Channel}
use Rattle.us_flows.specs.Tables.{Tables, map_len, rounds_fit}
use Rattle.us_flows.specs.Clusters.{turns_of, words_of}
use Rattle.us_flows.specs.Lawful.{AreTables}
use Rattle.us_bucket.specs.Levels.{bytes_in}
use Rattle.us_holes.specs.Boards.{Board}
use Rattle.us_split.specs.Requested.{requested_in}
use Rattle.us_split.specs.Plans.{ledger_of, plan_of}
use Rattle.us_calendar.specs.Calendars as calendars
use Rattle.us_calendar.specs.Runs.{rounds_on}
use Rattle.us_calendar.specs.declared.settled.Settled.{Settled}
use Rattle.us_channel.specs.Reserves.{reserves}
use Rattle.us_channel.specs.Placements.{credits}
use Rattle.us_round.specs.Rounds.{State, opening, begun, fills_of, idle, round_plan, builds_of, ended, round_of, schedule, final, all_grants, is_of_cluster}
use Rattle.us_output.specs.Outputs.{Scheduled, built_map}
use Rattle.us_round.specs.States.{IsState, AreSound}

-- what each round starts from, once its cut is in
unfoldable pub begun_rounds : State → List (List ℕ) → List State
begun_rounds state [] = []
begun_rounds state (cut ∷ cuts) = begun state cut ∷ begun_rounds (round_of state cut).state cuts

-- the schedule is what these rounds come to,
abbrev pub ScheduleIsOfBegunRounds : Type 0
ScheduleIsOfBegunRounds = (state : State) (cuts : List (List ℕ)) →
    schedule state cuts ≡ map (λ s. (ended s (builds_of s)).scheduled) (begun_rounds state cuts)

-- which are numbered one after another,
abbrev pub RoundsAreNumbered : Type 0
RoundsAreNumbered = (state : State) (cuts : List (List ℕ)) →
    map (λ s. s.round) (begun_rounds state cuts) ≡ range_with_len state.round (length cuts)

-- and are of the same tables
abbrev pub TablesStay : Type 0
TablesStay = (state : State) (cuts : List (List ℕ)) →
    AllByRecursion (λ s. s.tables ≡ state.tables) (begun_rounds state cuts)

-- a cut has a number for each word
abbrev pub AreCuts : Tables → List (List ℕ) → Type 0
AreCuts t cuts = AllByRecursion (λ cut. length cut ≡ length (words_of t)) cuts

-- Every round from the opening on is sound.
abbrev pub RoundsAreSound : Type 0
RoundsAreSound = (t : Tables) (cuts : List (List ℕ)) → AreTables t → AreCuts t cuts →
    AllByRecursion (λ state. IsState state × AreSound state (builds_of state)) (begun_rounds (opening t) cuts)

-- the plan of a round that has begun is that of one pass, in which each turn has what the turns before it left
abbrev pub IsPlannedOnce : State → Type 0
IsPlannedOnce s =
    round_plan s ≡ plan_of s.outstanding (ledger_of s.tables (map bytes_in s.buckets) (idle (fills_of s))) (turns_of s.tables)

-- Where no flow has a minimum rate, every round from the opening on is planned so.
abbrev pub OnePassDoes : Type 0
OnePassDoes = (t : Tables) (cuts : List (List ℕ)) → AllByRecursion (λ flow. flow.min_rate ≡ 0) t.flows → AreCuts t cuts →
    AllByRecursion IsPlannedOnce (begun_rounds (opening t) cuts)

-- A round's channels are those of the tables.
abbrev pub ChannelsStay : Type 0
ChannelsStay = (s : State) → IsState s → map (λ b. b.channel) (builds_of s) ≡ s.tables.channels

-- what the calendar of the channel at this place of the table settled in a round
abbrev pub settled_at : ℕ → Scheduled → List Settled
settled_at place s = slice_index_or (map (λ b. b.settled) s.channels) place []

-- the boards that it finds from round 0 on: those of the channel's reserves
abbrev pub boards_of : Tables → Channel → ℕ → List Board
boards_of t c rounds = map (reserves c (map_len t c)) (range_with_len 0 rounds)

-- The calendar of each channel goes over these boards, with these cuts and no others.
abbrev pub CalendarsRun : Type 0
CalendarsRun = (t : Tables) (cuts : List (List ℕ)) (place : ℕ) (c : Channel) → slice_get t.channels place ≡ Some c →
    map (settled_at place) (schedule (opening t) cuts)
    ≡ map (λ round. round.settled) (rounds_on (calendars.opening t c) cuts (boards_of t c (length cuts)))

-- the bytes of the word with this number that cuts request,
abbrev pub asked_of : Tables → ℕ → List (List ℕ) → ℕ
asked_of t number cuts = sum_by (λ cut. slice_index (requested_in (words_of t) cut) number) cuts

-- and that rounds credit
abbrev pub credited_of : ℕ → List Scheduled → ℕ
credited_of number rounds = sum_by (λ s. credits (is_of_cluster number) (all_grants s.channels)) rounds

-- After any rounds from the opening on, each byte that was requested is outstanding or was credited, once.
abbrev pub BytesAreKept : Type 0
BytesAreKept = (t : Tables) (cuts : List (List ℕ)) (number : ℕ) → AreTables t → AreCuts t cuts →
    slice_index (final (opening t) cuts).outstanding number + credited_of number (schedule (opening t) cuts)
    ≡ asked_of t number cuts

-- the number of a round has four bytes, and the MAP of each channel is lawful
abbrev pub HasLawfulMaps : Tables → Scheduled → Type 0
HasLawfulMaps t s = (s.round < 2 ^ 32) × AllByRecursion (λ b. IsMapBody (built_map t s.round s.pending b)) s.channels

-- So is every round from the opening on, where all fit into a run.
abbrev pub MapsAreLawful : Type 0
MapsAreLawful = (t : Tables) (cuts : List (List ℕ)) → AreTables t → AreCuts t cuts → rounds_fit t (length cuts) ≡ true →
    AllByRecursion (HasLawfulMaps t) (schedule (opening t) cuts)
