-- That the parts of a round are the round.
use Rattle.std.proofs.Common.{◌≡◌, ℕ, ◌+◌, ◌*◌, ◌<◌, ◌≤◌, List, length, map, refl, ap, ◌∙◌, arith}
use Rattle.std.specs.Prelude.{filter_map, flat_map, sum_by}
use Rattle.std.proofs.lemmas.Nat.{mul-le}
use Rattle.us_flows.specs.Tables.{max_run_ticks}
use Rattle.us_flows.specs.Clusters.{turns_of}
use Rattle.us_flows.specs.Lawful.{AreTables}
use Rattle.us_bucket.specs.Levels.{bytes_in, reserve_in}
use Rattle.us_calendar.specs.Calendars.{settled_in}
use Rattle.us_split.specs.Plans.{reserved_for}
use Rattle.us_channel.specs.Channels.{Built}
use Rattle.us_round.specs.Rounds.{State, uncredited, all_grants, pending_sids, credited, builds_of, fills_of, idle, round_plan, round_from, unreserved}
use Rattle.us_output.specs.Outputs.{rows_on, out_of, AreWithinLimits}
use Rattle.us_output.specs.Leftovers.{still_asking}
use Rattle.us_round.specs.Cores.{Core, AreCounted, credited_core, idle_of, planned_core}
use Rattle.us_round.specs.Parts.{scheduled_of, state_of}
use Rattle.us_round.specs.States.{AreSound, IsState}
use Rattle.us_round.proofs.CalendarLemmas.{builds_long, calendars_sum, counted}
use Rattle.us_round.proofs.PhaseLemmas.{filled_counted}
use Rattle.us_output.proofs.LineLemmas.{lines_few}
use Rattle.us_round.proofs.PendingLemmas.{same_pendings}
use Rattle.us_round.proofs.ScheduleLaws.{calendars_in, state_sound}

-- The round.

-- what a round that is planned on what is idle leaves,
pub left_state : (core : Core) (old fs bs : List Built) → idle_of fs ≡ idle (fills_of (state_of core old)) →
    bs ≡ builds_of (state_of core old) →
    state_of (credited_core (planned_core core fs) bs) bs ≡ credited (state_of core old) (builds_of (state_of core old))
left_state core old fs bs free is =
    let s : State = state_of core old in
    ap (λ ms. record (credited s bs) {
      reserves = unreserved (reserved_for core.tables core.outstanding (map bytes_in core.buckets) (map reserve_in core.reserves) ms) 0
          core.reserves;
    }) free
    ∙ ap (λ bs. credited s bs) is

pub run_state : (core : Core) (old fs bs : List Built) → idle_of fs ≡ idle (fills_of (state_of core old)) →
    bs ≡ builds_of (state_of core old) →
    state_of (credited_core (planned_core core fs) bs) bs ≡ (round_from (state_of core old)).state
unfolding round_from
run_state core old fs bs free is = left_state core old fs bs free is

-- and what it was scheduled
pub run_scheduled : (core : Core) (old bs : List Built) → bs ≡ builds_of (state_of core old) →
    scheduled_of core bs ≡ (round_from (state_of core old)).scheduled
unfolding round_from
run_scheduled core old bs is =
    let s : State = state_of core old in
    let left : List ℕ = uncredited (all_grants (builds_of s)) 0 core.outstanding in
    let pendings : filter_map (still_asking core.outstanding left) (turns_of core.tables)
    ≡ pending_sids (all_grants (builds_of s)) left (turns_of core.tables) =
    same_pendings (all_grants (builds_of s)) core.outstanding left (turns_of core.tables) refl in
    rw is (ap (λ pendings. record { round = core.round; channels = builds_of s; pending = pendings }) pendings)

-- a run has fewer rounds than a number of 32 bits can count
pub few_rounds : (s : Core) → AreTables s.tables → (s.round + 1) * s.tables.round_ticks ≤ max_run_ticks →
    s.round + 1 < 4294967296
few_rounds s lawful time =
    let least : (s.round + 1) * 1 ≤ (s.round + 1) * s.tables.round_ticks =
    mul-le (s.round + 1) 1 (s.round + 1) s.tables.round_ticks (omega arith) lawful.round_ticks.0 in
    omega (arith, least, time)

-- Lines.

-- what the calendars of a round settle is counted
all_counted : (s : State) → IsState s → AreCounted s.calendars (builds_of s)
unfolding builds_of
all_counted s is =
    counted (round_plan s) (fills_of s) s.calendars (filled_counted s.tables s.round s.calendars (calendars_in s is))

-- so a round has few lines but those of its calendars
pub run_few : (s : State) → AreTables s.tables → IsState s → AreWithinLimits s.tables (round_from s).scheduled →
    length (out_of s.tables (round_from s).scheduled).rows + sum_by settled_in s.calendars
    ≤ 100 * length s.tables.channels + sum_by settled_in (round_from s).state.calendars
unfolding round_from out_of
run_few s lawful is limits =
    let sound : AreSound s (builds_of s) = state_sound s lawful is in
    let few : length (flat_map (rows_on s.round) (builds_of s))
    ≤ 100 * length (builds_of s) + sum_by (λ b. length b.settled) (builds_of s) =
    lines_few s.tables s.round _ (builds_of s) limits sound.inside sound.few in
    let then : sum_by settled_in (map (λ b. b.calendar) (builds_of s)) ≡ sum_by (λ b. settled_in b.calendar) (builds_of s) =
    calendars_sum (builds_of s) in
    omega (arith, few, then, all_counted s is, builds_long s (calendars_in s is))
