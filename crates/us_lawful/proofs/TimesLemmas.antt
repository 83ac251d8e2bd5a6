-- How often the lines of a run name an occurrence: as often as the calendar of its channel settles it.
use Rattle.std.proofs.Common.{◌≡◌, ℕ, ◌+◌, ◌||◌, cond, List, [], ◌++◌, length, map, sum_by, count_by, flat_map, slice_get, option_map, Some, refl, sym, ap, subst, ◌∙◌, arith}
use Rattle.std.proofs.lemmas.Option.{slice_get-map, get_or_from_slice_get}
use Rattle.us_flows.specs.declared.channels.Channel.{Channel}
use Rattle.us_flows.specs.Tables.{Tables}
use Rattle.us_flows.specs.Lawful.{AreTables}
use Rattle.us_requests.specs.declared.asks.Counts.{Counts}
use Rattle.us_calendar.specs.Entries.{Entry}
use Rattle.us_calendar.specs.Runs as runs
use Rattle.us_calendar.specs.Runs.{Round, grants, misses}
use Rattle.us_channel.specs.Channels.{Built}
use Rattle.us_output.specs.declared.rows.Row.{Row}
use Rattle.us_round.specs.Rounds.{State, opening, builds_of, ended}
use Rattle.us_output.specs.Outputs.{Scheduled}
use Rattle.us_round.specs.ScheduleLaws.{AreCuts, settled_at}
use Rattle.us_output.proofs.PartLemmas.{all_found}
use Rattle.us_round.proofs.ChannelRunLaws.{calendars_run, channels_stay}
use Rattle.us_round.proofs.ScheduleLaws.{schedule_is_of_begun_rounds}
use Rattle.us_lawful.specs.Output.{output_of, judged_of}
use Rattle.us_lawful.specs.CalendarLines.{names, times}
use Rattle.us_lawful.proofs.SameLemmas.{Same, sum_append, sum_flat_map}
use Rattle.us_lawful.proofs.SumLemmas.{sum_none}
use Rattle.us_lawful.proofs.RoundLemmas.{rounds_of, IsRoundOf, rounds_are, rounds_long, found_made, built_at, round_rows, last_rows, last_all, sum_lines}
use Rattle.us_lawful.proofs.WindowLemmas.{rounds_for, rounds_for_long, times_parted}
use Rattle.us_lawful.proofs.CalendarLineLemmas.{IsListed, IsBuiltAt, AreBuilt, round_counted, sum_beside}

-- Rounds.

-- what a round comes to
abbrev scheduled_from : State → Scheduled
scheduled_from s = (ended s (builds_of s)).scheduled

-- each round of a run settled at each place what that channel's calendar settles in it
pub rounds_built : (t : Tables) (cuts : List (List ℕ)) (r : ℕ) (s : State) → AreTables t → AreCuts t cuts →
    slice_get (rounds_of t cuts) r ≡ Some s → AreBuilt t cuts r (builds_of s)
rounds_built t cuts r s lawful long at place b there =
    let rounds : List State = rounds_of t cuts in
    let is : IsRoundOf t (length cuts) s =
    all_found (IsRoundOf t (length cuts)) rounds r s (rounds_are t cuts lawful long) at in
    let channel : slice_get t.channels place ≡ Some b.channel =
    ap (λ cs. slice_get cs place) (sym (channels_stay s is.state ∙ ap (λ (u : Tables). u.channels) is.tables))
    ∙ slice_get-map (λ (b : Built). b.channel) (builds_of s) place ∙ ap (option_map (λ (b : Built). b.channel)) there in
    let one : slice_get (map scheduled_from rounds) r ≡ Some (scheduled_from s) =
    slice_get-map scheduled_from rounds r ∙ ap (option_map scheduled_from) at in
    let own : settled_at place (scheduled_from s) ≡ b.settled =
    get_or_from_slice_get (map (λ (b : Built). b.settled) (builds_of s)) place b.settled []
    (slice_get-map (λ (b : Built). b.settled) (builds_of s) place ∙ ap (option_map (λ (b : Built). b.settled)) there) in
    let told : slice_get (map (λ (round : Round). round.settled) (rounds_for t b.channel cuts)) r ≡ Some b.settled =
    ap (λ all. slice_get all r) (sym (calendars_run t cuts place b.channel channel))
    ∙ ap (λ all. slice_get (map (settled_at place) all) r) (schedule_is_of_begun_rounds (opening t) cuts)
    ∙ slice_get-map (settled_at place) (map scheduled_from rounds) r
    ∙ ap (option_map (settled_at place)) one ∙ ap Some own in
    let found = found_made (λ (round : Round). round.settled) (rounds_for t b.channel cuts) r b.settled told in
    record { channel = channel; round = found.0; at = found.1; settled = found.2 }

-- Lines.

-- a report has the lines of its rounds, in whatever order, and the last ones
pub all_lines : (t : Tables) (cuts : List (List ℕ)) (counts : Counts) → AreTables t → AreCuts t cuts →
    Same (judged_of (output_of t cuts counts)).lines (flat_map round_rows (rounds_of t cuts) ++ last_rows t cuts counts)
all_lines t cuts counts lawful long f =
    omega (
      arith,
      sum_lines f t cuts counts lawful long,
      sum_append f (flat_map round_rows (rounds_of t cuts)) (last_rows t cuts counts),
      sum_flat_map f round_rows (rounds_of t cuts),
    )

-- round by round
each_counted : (t : Tables) (cuts : List (List ℕ)) (place : ℕ) (c : Channel) (e : Entry) (n : ℕ) → AreTables t →
    AreCuts t cuts → IsListed t place c e → (r : ℕ) (s : State) (round : Round) → slice_get (rounds_of t cuts) r ≡ Some s →
    slice_get (rounds_for t c cuts) r ≡ Some round →
    count_by (names e n) (round_rows s) ≡ count_by (λ x. grants e n x || misses e n x) round.settled
each_counted t cuts place c e n lawful long listed r s round at there =
    let is : IsRoundOf t (length cuts) s =
    all_found (IsRoundOf t (length cuts)) (rounds_of t cuts) r s (rounds_are t cuts lawful long) at in
    let all : AreBuilt t cuts r (builds_of s) = rounds_built t cuts r s lawful long at in
    let own = built_at t (length cuts) s place c is listed.at in
    let b : Built = own.0 in
    let built : IsBuiltAt t cuts r place b = all place b own.1 in
    let found : slice_get (rounds_for t c cuts) r ≡ Some built.round =
    subst (λ d. slice_get (rounds_for t d cuts) r ≡ Some built.round) own.2 built.at in
    let equal : Some built.round ≡ Some round = sym found ∙ there in
    let same : built.round ≡ round = cc equal in
    round_counted t cuts r place c e n s.round (builds_of s) b lawful listed all own.1
    ∙ ap (count_by (λ x. grants e n x || misses e n x)) (sym built.settled ∙ ap (λ (round : Round). round.settled) same)

-- So the lines of a run name an occurrence as often as its calendar grants or misses it.
pub lines_counted : (t : Tables) (cuts : List (List ℕ)) (counts : Counts) (place : ℕ) (c : Channel) (e : Entry) (n : ℕ) →
    AreTables t → AreCuts t cuts → IsListed t place c e →
    times e n (judged_of (output_of t cuts counts)).lines
    ≡ runs.times (grants e n) (rounds_for t c cuts) + runs.times (misses e n) (rounds_for t c cuts)
lines_counted t cuts counts place c e n lawful long listed =
    let f : Row → ℕ = λ row. cond (names e n row) 1 0 in
    let over : Round → ℕ = λ round. count_by (λ x. grants e n x || misses e n x) round.settled in
    let rounds : sum_by (λ s. sum_by f (round_rows s)) (rounds_of t cuts) ≡ sum_by over (rounds_for t c cuts) =
    sum_beside (λ s. sum_by f (round_rows s)) over (rounds_of t cuts) (rounds_for t c cuts)
    (rounds_long t cuts ∙ sym (rounds_for_long t c cuts)) (each_counted t cuts place c e n lawful long listed) in
    omega (
      arith,
      sum_lines f t cuts counts lawful long,
      rounds,
      sum_none f (last_rows t cuts counts) (last_all (λ row. f row ≡ 0) t cuts counts (λ state. refl) (λ activity. refl) refl),
      times_parted e n (rounds_for t c cuts),
    )
