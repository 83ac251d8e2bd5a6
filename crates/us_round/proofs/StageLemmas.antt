-- From stage to stage of a round.
use Rattle.std.proofs.Common.{◌≡◌, ℕ, ◌+◌, ◌*◌, ◌≤◌, List, [], ◌∷◌, length, map, refl, ap, ap₂, sym, subst, ◌∙◌, arith}
use Rattle.std.specs.Prelude.{zip, filter_map, ◌-◌}
use Rattle.std.specs.List.{AllByRecursion}
use Rattle.us_flows.specs.Tables.{Tables, max_run_ticks}
use Rattle.us_flows.specs.Clusters.{words_of, turns_of}
use Rattle.us_flows.specs.Lawful.{AreTables, IsChannel}
use Rattle.us_bucket.specs.Levels.{bytes_in, reserve_in}
use Rattle.us_calendar.specs.Calendars.{pace_of}
use Rattle.us_holes.specs.Boards.{free_count}
use Rattle.us_split.specs.Plans.{IsIdle, plan_for}
use Rattle.us_split.specs.Claims.{Claim, all_claims}
use Rattle.us_split.proofs.ClaimLemmas.{plan_for-claims}
use Rattle.us_channel.specs.Channels.{Filled, Built, IsBuilt, fill, heard, ungranted}
use Rattle.us_output.specs.Outputs.{RoundOut, Scheduled, out_of, AreWithinLimits}
use Rattle.us_output.specs.Leftovers.{still_asking, told}
use Rattle.us_round.specs.Rounds.{State, RoundResult, begun, fills_of, idle, round_plan, builds_of, round_from, round_of}
use Rattle.us_round.specs.States.{IsState, AreSound, settled_by}
use Rattle.us_round.specs.Cores.{Core, IsReady, begun_core, credited_core, first_sid_at, idle_of, plan_over, planned_core, with_calendars}
use Rattle.us_round.specs.Parts.{ArePartsDone, ArePartsOfRound, ArePartsOfState, AreBuilt, AreClaimsOn, built_by, done_by, done_of, filled_by, state_of}
use Rattle.us_round.proofs.AskingLemmas.{pendings_are}
use Rattle.us_round.proofs.CutLemmas.{calendars_heard, channels_heard, settled_heard}
use Rattle.us_round.proofs.FillLemmas.{filled_channels}
use Rattle.us_round.proofs.PhaseLemmas.{all_ready}
use Rattle.us_round.proofs.SoundLemmas.{builds_are, claims_for}
use Rattle.us_round.proofs.CalendarLemmas.{settled_few}
use Rattle.us_round.proofs.ScheduleLaws.{begun_state, calendars_in, next_state, state_idle, state_sound}
use Rattle.us_round.proofs.ChannelRunLaws.{channels_stay}
use Rattle.us_round.proofs.RoundLemmas.{left_state, run_state, run_scheduled, run_few}

-- The beginning.

pub begun_as : (old : Core) (bs : List Built) (cut : List ℕ) →
    state_of (begun_core old cut) (map (heard cut) bs) ≡ begun (state_of old bs) cut
begun_as old bs cut = ap (λ cs. with_calendars (begun_core old cut) cs) (calendars_heard cut bs)

pub begun_parts : (old : Core) (bs : List Built) (cut : List ℕ) → ArePartsOfState old bs → AreTables old.tables →
    length cut ≡ length (words_of old.tables) → ArePartsOfRound (begun_core old cut) (map (heard cut) bs)
begun_parts old bs cut are lawful long = record {
  state = subst IsState (sym (begun_as old bs cut)) (begun_state (state_of old bs) cut are.state long);
  channels = channels_heard cut bs ∙ are.channels;
  told = refl;
  lawful = lawful;
}

-- Reserves and calendars.

pub parts_ready : (core : Core) (bs : List Built) → ArePartsOfRound core bs →
    (core.round + 1) * core.tables.round_ticks ≤ max_run_ticks → AllByRecursion (IsReady core.tables core.round) bs
parts_ready core bs are time =
    all_ready core.tables core.round bs time
    (subst (λ cs. AllByRecursion (IsChannel core.tables) cs) (sym are.channels) are.lawful.channels)
    (are.state.paces ∙ ap (λ cs. map (pace_of core.tables) cs) (sym are.channels)) are.state.rounds

fills_parts : (t : Tables) (round : ℕ) (bs : List Built) →
    map (λ b. ungranted (fill t round b.channel b.calendar)) bs
    ≡ map ungranted (map (λ pair. fill t round pair.0 pair.1) (zip (map (λ b. b.channel) bs) (map (λ b. b.calendar) bs)))
fills_parts t round [] = refl
fills_parts t round (b ∷ bs) = ap (λ more. ungranted (fill t round b.channel b.calendar) ∷ more) (fills_parts t round bs)

-- these are the channels of the state
fills_are : (core : Core) (bs : List Built) → ArePartsOfRound core bs →
    filled_by core bs ≡ map ungranted (fills_of (state_of core bs))
fills_are core bs are =
    fills_parts core.tables core.round bs
    ∙ ap (λ cs. map ungranted (map (λ pair. fill core.tables core.round pair.0 pair.1) (zip cs (map (λ b. b.calendar) bs))))
    are.channels

-- The plan.

idle_parts : (fs : List Filled) → idle_of (map ungranted fs) ≡ idle fs
idle_parts [] = refl
idle_parts (f ∷ fs) = ap (λ more. free_count f.board.cells ∷ more) (idle_parts fs)

filled_idle : (core : Core) (bs : List Built) → ArePartsOfRound core bs →
    idle_of (filled_by core bs) ≡ idle (fills_of (state_of core bs))
filled_idle core bs are = ap (λ bs. idle_of bs) (fills_are core bs are) ∙ idle_parts (fills_of (state_of core bs))

pub room_as : (core : Core) (bs : List Built) → ArePartsOfRound core bs → IsIdle core.tables (idle_of (filled_by core bs))
room_as core bs are =
    subst (λ free. IsIdle core.tables free) (sym (filled_idle core bs are)) (state_idle (state_of core bs) are.lawful are.state)

plan_as : (core : Core) (bs : List Built) → ArePartsOfRound core bs →
    plan_over core (filled_by core bs) ≡ round_plan (state_of core bs)
plan_as core bs are =
    ap (λ free. plan_for core.tables core.outstanding (map bytes_in core.buckets) (map reserve_in core.reserves) free)
    (filled_idle core bs are)

-- Claims.

channels_kept : (fs : List Filled) → map (λ b. b.channel) (map ungranted fs) ≡ map (λ f. f.channel) fs
channels_kept [] = refl
channels_kept (f ∷ fs) = ap (λ more. f.channel ∷ more) (channels_kept fs)

pub claims_as : (core : Core) (bs : List Built) (plan : List (List Claim)) → ArePartsOfRound core bs →
    plan ≡ all_claims core.tables (plan_over core (filled_by core bs)) → AreClaimsOn plan (filled_by core bs)
claims_as core bs plan are is =
    let s : State = state_of core bs in
    let channels : map (λ b. b.channel) (filled_by core bs) ≡ core.tables.channels =
    ap (λ bs. map (λ (b : Built). b.channel) bs) (fills_are core bs are) ∙ channels_kept (fills_of s)
    ∙ filled_channels core.tables core.round s.calendars (calendars_in s are.state) in
    claims_for core.tables (round_plan s) plan (filled_by core bs)
    (is ∙ ap (λ plan. all_claims core.tables plan) (plan_as core bs are)) channels
    (plan_for-claims core.tables core.outstanding (map bytes_in core.buckets) (map reserve_in core.reserves)
    (idle (fills_of s)) are.lawful
    (state_idle s are.lawful are.state))

pub builds_as : (core : Core) (bs : List Built) (plan : List (List Claim)) → ArePartsOfRound core bs →
    plan ≡ all_claims core.tables (plan_over core (filled_by core bs)) →
    built_by plan (filled_by core bs) ≡ builds_of (state_of core bs)
builds_as core bs plan are is =
    builds_are (state_of core bs) plan (filled_by core bs) (calendars_in (state_of core bs) are.state)
    (is ∙ ap (λ plan. all_claims core.tables plan) (plan_as core bs are)) (fills_are core bs are)

-- The end.

pub built_as : (core : Core) (old bs : List Built) → ArePartsOfRound core old →
    (core.round + 1) * core.tables.round_ticks ≤ max_run_ticks → bs ≡ builds_of (state_of core old) →
    AreBuilt (planned_core core (filled_by core old)) bs
built_as core old bs are time is =
    let s : State = state_of core old in
    let sound : AreSound s bs = subst (λ bs. AreSound s bs) (sym is) (state_sound s are.lawful are.state) in
    record {
      lawful = are.lawful;
      told = are.told;
      time = time;
      covers = sound.covers;
      boards = sound.boards;
      inside = sound.inside;
      next = subst IsState (sym (left_state core old (filled_by core old) bs (filled_idle core old are) is)) (next_state s are.state);
      channels = ap (λ bs. map (λ (b : Built). b.channel) bs) is ∙ channels_stay s are.state;
    }

-- what is left are parts of a state again
done_parts : (core : Core) (bs : List Built) → AreBuilt core bs → AllByRecursion IsBuilt bs →
    ArePartsDone (credited_core core bs) bs
done_parts core bs are known = record {
  parts = record {
    state = are.next;
    few = settled_few core.tables bs are.lawful are.channels known;
    told = omega (arith, are.told);
    channels = are.channels;
  };
  later = omega arith;
  time = are.time;
  boards = are.boards;
  inside = are.inside;
}

pub next_parts : (core next : Core) (bs : List Built) → AreBuilt core bs → next ≡ credited_core core bs →
    AllByRecursion IsBuilt bs → ArePartsDone next bs
next_parts core next bs are is known = subst (λ k. ArePartsDone k bs) (sym is) (done_parts core bs are known)

-- what they leave, by the number that is told
abbrev done_at : Core → List Built → ℕ → List (ℕ × ℕ) → RoundResult
done_at core bs n pending = record { state = state_of (credited_core core bs) bs; scheduled = told n bs pending }

-- and tell the round
pub told_as : (core next : Core) (bs : List Built) (pending : List (ℕ × ℕ)) → next ≡ credited_core core bs →
    pending ≡ filter_map (first_sid_at next.tables) next.pending → done_by next bs pending ≡ done_of core bs
told_as core next bs pending is lists =
    let pendings : pending ≡ filter_map (still_asking core.outstanding (credited_core core bs).outstanding) (turns_of core.tables) =
    lists ∙ ap (λ (k : Core). filter_map (first_sid_at k.tables) k.pending) is
    ∙ pendings_are core.tables core.outstanding (credited_core core bs).outstanding in
    let number : core.round + 1 - 1 ≡ core.round = omega arith in
    ap (λ k. done_by k bs pending) is ∙ ap (λ n. done_at core bs n pending) number
    ∙ ap (λ ps. done_at core bs core.round ps) pendings

-- The round.

abbrev result_of : State → Scheduled → RoundResult
result_of state scheduled = record { state = state; scheduled = scheduled }

pub round_as : (s : State) (core : Core) (old bs : List Built) → ArePartsOfRound core old → state_of core old ≡ s →
    bs ≡ builds_of (state_of core old) → done_of (planned_core core (filled_by core old)) bs ≡ round_from s
unfolding round_from
round_as s core old bs are begins is =
    ap₂ (λ state scheduled. result_of state scheduled)
    (run_state core old (filled_by core old) bs (filled_idle core old are) is) (run_scheduled core old bs is)
    ∙ ap round_from begins

-- its tables are those that it began with
pub same_tables : (s : State) (cut : List ℕ) → (round_of s cut).state.tables ≡ s.tables
unfolding round_of round_from
same_tables s cut = refl

-- and it has few lines
pub few_as : (s : State) (cut : List ℕ) (core : Core) (bs : List Built) (done : RoundResult) → ArePartsOfRound core bs →
    state_of core bs ≡ begun s cut → done ≡ round_of s cut → AreWithinLimits s.tables done.scheduled →
    length (out_of s.tables done.scheduled).rows + settled_by s
    ≤ 100 * length s.tables.channels + settled_by done.state
unfolding round_of
few_as s cut core bs done are begins is limits =
    subst (λ d. length (out_of s.tables d.scheduled).rows + settled_by s
    ≤ 100 * length s.tables.channels + settled_by d.state) (sym is)
    (subst (λ n. length (out_of s.tables (round_from (begun s cut)).scheduled).rows + n
    ≤ 100 * length s.tables.channels + settled_by (round_from (begun s cut)).state) (settled_heard cut s.calendars)
    (run_few (begun s cut) (subst (λ b. AreTables b.tables) begins are.lawful) (subst IsState begins are.state)
    (subst (λ d. AreWithinLimits s.tables d.scheduled) is limits)))

pub sound_as : (s : State) (core : Core) (bs : List Built) → ArePartsOfRound core bs → state_of core bs ≡ s →
    AreSound s (builds_of s)
sound_as s core bs are begins = subst (λ s. AreSound s (builds_of s)) begins (state_sound (state_of core bs) are.lawful are.state)

-- what it gives tells these
pub done_few : (s : State) (cut : List ℕ) (done : RoundResult) (next : State) (out : RoundOut) → done ≡ round_of s cut →
    next ≡ done.state → out ≡ out_of done.state.tables done.scheduled → AreWithinLimits done.state.tables done.scheduled →
    (AreWithinLimits s.tables done.scheduled → length (out_of s.tables done.scheduled).rows + settled_by s
    ≤ 100 * length s.tables.channels + settled_by done.state) →
    length out.rows + settled_by s ≤ 100 * length s.tables.channels + settled_by next
done_few s cut done next out is ends made limits few =
    let same : done.state.tables ≡ s.tables = ap (λ (d : RoundResult). d.state.tables) is ∙ same_tables s cut in
    rw (ends, made, same) (few (subst (λ t. AreWithinLimits t done.scheduled) same limits))

-- Stage after stage, the channels come to those of the state.
pub built_in_stages : (core second planned third : Core) (old fs those bs : List Built) → ArePartsOfRound core old →
    second ≡ core → fs ≡ filled_by core old → planned ≡ planned_core second fs → those ≡ fs → third ≡ planned →
    bs ≡ built_by planned.claims those →
    (third ≡ planned_core core (filled_by core old)) × (bs ≡ builds_of (state_of core old))
built_in_stages core second planned third old fs those bs are still fills plans kept same builds =
    let all : planned ≡ planned_core core (filled_by core old) =
    plans ∙ ap₂ (λ k fs. planned_core k fs) still fills in
    let made : planned.claims ≡ all_claims core.tables (plan_over core (filled_by core old)) = ap (λ (k : Core). k.claims) all in
    (same ∙ all, builds ∙ ap (λ fs. built_by planned.claims fs) (kept ∙ fills) ∙ builds_as core old planned.claims are made)

-- what they leave is the round
pub stepped_as : (s : State) (cut : List ℕ) (core third : Core) (old bs : List Built) (done : RoundResult) →
    ArePartsOfRound core old → state_of core old ≡ begun s cut →
    (third ≡ planned_core core (filled_by core old)) × (bs ≡ builds_of (state_of core old)) →
    done ≡ done_of third bs → done ≡ round_of s cut
unfolding round_of
stepped_as s cut core third old bs done are begins stages is =
    is ∙ ap (λ k. done_of k bs) stages.0 ∙ round_as (begun s cut) core old bs are begins stages.1

pub stage_claims : (core second planned : Core) (old fs those : List Built) → ArePartsOfRound core old → second ≡ core →
    fs ≡ filled_by core old → planned ≡ planned_core second fs → those ≡ fs → AreClaimsOn planned.claims those
stage_claims core second planned old fs those are still fills plans kept =
    let made : planned.claims ≡ all_claims core.tables (plan_over core (filled_by core old)) =
    ap (λ (k : Core). k.claims) (plans ∙ ap₂ (λ k fs. planned_core k fs) still fills) in
    subst (AreClaimsOn planned.claims) (sym (kept ∙ fills)) (claims_as core old planned.claims are made)

pub stage_built : (core third : Core) (old bs : List Built) → ArePartsOfRound core old →
    (core.round + 1) * core.tables.round_ticks ≤ max_run_ticks →
    (third ≡ planned_core core (filled_by core old)) × (bs ≡ builds_of (state_of core old)) → AreBuilt third bs
stage_built core third old bs are time stages =
    subst (λ k. AreBuilt k bs) (sym stages.0)
    (built_as core old bs are time stages.1)
