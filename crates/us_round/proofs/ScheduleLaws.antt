-- The rounds of a schedule, one after another: each begins with a state, and is sound.
use Rattle.std.proofs.Common.{◌≡◌, ℕ, ◌+◌, ◌<◌, ◌≤◌, ◌==◌, List, [], ◌∷◌, length, map, refl, ap, sym, subst, ◌∙◌, inl, inr, arith}
use Rattle.std.specs.Prelude.{slice_get, slice_index, option_map, Some}
use Rattle.std.specs.List.{AllByRecursion}
use Rattle.std.proofs.lemmas.Bool.{cases_Bool}
use Rattle.std.proofs.lemmas.List.{length-map}
use Rattle.std.proofs.lemmas.Option.{slice_get-map, slice_get_within, get_or_from_slice_get}
use Rattle.us_flows.specs.Tables.{Tables}
use Rattle.us_flows.specs.Clusters.{words_of}
use Rattle.us_flows.specs.Lawful.{AreTables}
use Rattle.us_bucket.specs.Levels.{Level, refilled, bytes_in, reserve_in}
use Rattle.us_split.specs.Plans.{IsIdle}
use Rattle.us_split.proofs.MinRateLemmas.{reserved_within}
use Rattle.us_split.proofs.TwoPassLaws.{plan_for-lawful, reserved-within}
use Rattle.us_round.specs.Rounds.{State, opening, brought, begun, fills_of, idle, builds_of, credited, round_from, round_of, schedule, reserved_in}
use Rattle.us_round.specs.Cores.{Core, AreCalendars, IsFilledFor}
use Rattle.us_round.specs.States.{IsState, AreSound}
use Rattle.us_round.specs.ScheduleLaws.{begun_rounds, AreCuts, ScheduleIsOfBegunRounds, RoundsAreNumbered, TablesStay, RoundsAreSound}
use Rattle.us_output.proofs.PartLemmas.{all_weaker}
use Rattle.us_round.proofs.FillLemmas.{filled_idle}
use Rattle.us_round.proofs.CutLemmas.{asked_long, paces_heard, rounds_heard}
use Rattle.us_round.proofs.PhaseLemmas.{filled_sound}
use Rattle.us_round.proofs.CalendarLemmas.{state_next, opening_state}
use Rattle.us_round.proofs.ReserveLemmas.{unreserved-length}
use Rattle.us_round.proofs.SoundLemmas.{sound, turns_planned}

-- One round.

brought-length : (s : State) (levels : List Level) → length (brought s levels) ≡ length levels
brought-length s levels = elim (cases_Bool (s.round == 0)) [
  | inl first ↦ rw first refl
  | inr later ↦ rw later (length-map levels (refilled s.tables.round_ticks))
]

-- a round begins with a state,
pub begun_state : (s : State) (cut : List ℕ) → IsState s → length cut ≡ length (words_of s.tables) → IsState (begun s cut)
begun_state s cut is long = record {
  words = asked_long s.tables s.outstanding cut is.words long;
  flows = brought-length s s.buckets ∙ is.flows;
  reserves = brought-length s s.reserves ∙ is.reserves;
  paces = paces_heard cut s.calendars ∙ is.paces;
  rounds = rounds_heard cut s.round s.calendars is.rounds;
}

pub calendars_in : (s : State) → IsState s → AreCalendars s.tables s.round s.calendars
calendars_in s is = record { paces = is.paces; rounds = is.rounds }

-- leaves one,
pub next_state : (s : State) → IsState s → IsState (credited s (builds_of s))
next_state s is =
    let core : Core = record {
      tables = s.tables;
      round = s.round;
      told = 0;
      outstanding = s.outstanding;
      buckets = s.buckets;
      reserves = s.reserves;
      pending = [];
      claims = [];
    } in
    let next = state_next core s.calendars (builds_of s)
    (record { words = is.words; flows = is.flows; reserves = is.reserves }) (calendars_in s is) refl in
    record {
      words = next.words;
      flows = next.flows;
      reserves = unreserved-length (reserved_in s) 0 s.reserves ∙ is.reserves;
      paces = next.paces;
      rounds = next.rounds;
    }

-- has no more idle minislots than its MAPs have,
pub state_filled : (s : State) → AreTables s.tables → IsState s → AllByRecursion (IsFilledFor s.tables) (fills_of s)
state_filled s lawful is = filled_sound s.tables s.round s.calendars lawful (calendars_in s is)

pub state_idle : (s : State) → AreTables s.tables → IsState s → IsIdle s.tables (idle (fills_of s))
state_idle s lawful is =
    filled_idle s.tables s.round s.calendars (fills_of s) (calendars_in s is) refl (state_filled s lawful is)

-- takes no more first than is reserved,
state_reserved : (s : State) → IsState s → (place : ℕ) (bucket : Level) → slice_get s.reserves place ≡ Some bucket →
    reserved_in s place ≤ reserve_in bucket
state_reserved s is place bucket at =
    let inside : place < length s.reserves = slice_get_within s.reserves place bucket at in
    let many : length (map bytes_in s.buckets) ≡ length s.buckets = length-map s.buckets bytes_in in
    let own : slice_index (map reserve_in s.reserves) place ≡ reserve_in bucket =
    get_or_from_slice_get (map reserve_in s.reserves) place (reserve_in bucket) 0
    (slice_get-map reserve_in s.reserves place ∙ ap (option_map reserve_in) at) in
    let within = reserved-within s.tables s.outstanding (map bytes_in s.buckets) (map reserve_in s.reserves) (idle (fills_of s))
    place (omega (arith, inside, many, is.flows, is.reserves)) in
    omega (arith, within, reserved_within s.tables.flows (map reserve_in s.reserves) place, own)

-- and is sound
pub state_sound : (s : State) → AreTables s.tables → IsState s → AreSound s (builds_of s)
state_sound s lawful is =
    sound s lawful (calendars_in s is) is.words is.flows
    (plan_for-lawful s.tables s.outstanding (map bytes_in s.buckets) (map reserve_in s.reserves) (idle (fills_of s)) lawful
    (state_idle s lawful is))
    (state_reserved s is) (turns_planned s) (state_filled s lawful is)

-- All rounds.

pub schedule_is_of_begun_rounds : ScheduleIsOfBegunRounds
unfolding schedule begun_rounds round_of round_from
schedule_is_of_begun_rounds state [] = refl
schedule_is_of_begun_rounds state (cut ∷ cuts) =
    ap (λ more. (round_of state cut).scheduled ∷ more) (schedule_is_of_begun_rounds (round_of state cut).state cuts)

pub rounds_are_numbered : RoundsAreNumbered
unfolding begun_rounds round_of round_from
rounds_are_numbered state [] = refl
rounds_are_numbered state (cut ∷ cuts) =
    ap (λ more. state.round ∷ more) (rounds_are_numbered (round_of state cut).state cuts)

pub tables_stay : TablesStay
unfolding begun_rounds round_of round_from
tables_stay state [] = tt
tables_stay state (cut ∷ cuts) = (refl, tables_stay (round_of state cut).state cuts)

-- a round with these tables begins with this state, and is before another one
pub record IsBegunIn (t : Tables) (end : ℕ) (s : State) : Type 0 where
  pub tables : s.tables ≡ t
  pub state : IsState s
  pub before : s.round < end

pub all_begun : (s : State) (cuts : List (List ℕ)) → IsState s → AreCuts s.tables cuts →
    AllByRecursion (IsBegunIn s.tables (s.round + length cuts)) (begun_rounds s cuts)
unfolding begun_rounds round_of round_from
all_begun s [] is long = tt
all_begun s (cut ∷ cuts) is long =
    let now : IsState (begun s cut) = begun_state s cut is long.0 in
    let next : State = (round_of s cut).state in
    let more : AllByRecursion (IsBegunIn s.tables (s.round + 1 + length cuts)) (begun_rounds next cuts) =
    all_begun next cuts (next_state (begun s cut) now) long.1 in
    let end : s.round + 1 + length cuts ≡ s.round + length (cut ∷ cuts) = omega arith in (
      record { tables = refl; state = now; before = omega arith },
      subst (λ n. AllByRecursion (IsBegunIn s.tables n) (begun_rounds next cuts)) end more,
    )

-- those of a configuration, from the opening on
pub opening_begun : (t : Tables) (cuts : List (List ℕ)) → AreCuts t cuts →
    AllByRecursion (IsBegunIn t (0 + length cuts)) (begun_rounds (opening t) cuts)
opening_begun t cuts long = all_begun (opening t) cuts (opening_state t) long

pub rounds_are_sound : RoundsAreSound
rounds_are_sound t cuts lawful long =
    all_weaker (IsBegunIn t (0 + length cuts)) (λ s. IsState s × AreSound s (builds_of s))
    (λ s is. (is.state, state_sound s (subst AreTables (sym is.tables) lawful) is.state))
    (begun_rounds (opening t) cuts) (opening_begun t cuts long)
