-- The lines at the end of a report: no other line is of their kinds.
use Rattle.std.proofs.Common.{◌≡◌, ℕ, ◌+◌, Bool, true, false, List, [], ◌∷◌, ◌++◌, length, map, Option, Some, None, refl, ap, ap₂, ◌∙◌, arith, append-nil}
use Rattle.std.specs.Prelude.{if◌then◌else◌, filter, filter_map, option_and_then, option_map, slice_get, slice_index, sum_by, fold}
use Rattle.std.specs.List.{AllByRecursion, cons_option}
use Rattle.std.proofs.lemmas.List.Elements.{filter_map-append}
use Rattle.std.proofs.lemmas.List.Sums.{sum_by-cons}
use Rattle.us_flows.specs.declared.channels.Channel.{Channel}
use Rattle.us_flows.specs.Tables.{FlowTable, Tables}
use Rattle.us_flows.specs.Clusters.{Turn, table_order, tells_activity, words_in}
use Rattle.us_flows.specs.Lawful.{AreTables}
use Rattle.us_bucket.specs.Levels.{Level, units_in}
use Rattle.us_requests.specs.declared.asks.Counts.{Counts}
use Rattle.us_calendar.specs.Activity.{hears}
use Rattle.us_calendar.specs.Entries.{WordedFlow, with_words}
use Rattle.us_calendar.specs.declared.settled.Settled.{Settled}
use Rattle.us_calendar.specs.declared.settled.Settled.TheVariants as settled
use Rattle.us_channel.specs.Placements.{PlacedClaim}
use Rattle.us_channel.specs.Channels.{Built}
use Rattle.us_output.specs.declared.rows.FinalActivity.{FinalActivity}
use Rattle.us_output.specs.declared.rows.FinalState.{FinalState}
use Rattle.us_output.specs.declared.rows.Row.{Row}
use Rattle.us_output.specs.declared.rows.TraceCounts.{TraceCounts}
use Rattle.us_round.specs.Rounds.{State, opening, schedule, final, builds_of}
use Rattle.us_output.specs.Outputs.{settled_row, grant_row, activity_row, activity_rows, final_row, out_of}
use Rattle.us_round.specs.FinalRows.{activity_of, final_rows}
use Rattle.us_round.specs.ScheduleLaws.{AreCuts}
use Rattle.us_lawful.specs.Output.{counts_row, output_of, all_rows, judged_of, run_of}
use Rattle.us_lawful.specs.Runs.{Run, as_activity, as_final, as_counts, activities_in, finals_in, counts_in, counts_told}
use Rattle.us_lawful.specs.Finals as lawful
use Rattle.us_lawful.specs.Finals.{talking}
use Rattle.us_lawful.proofs.SameLemmas.{worth, sum_append, sum_flat_map, sum_map}
use Rattle.us_lawful.proofs.RoundLemmas.{final_tables, last_rows, round_rows, rounds_of, rows_in, sum_lines}
use Rattle.us_lawful.proofs.CalendarLineLemmas.{all_by_places}
use Rattle.us_lawful.proofs.ActivityLemmas.{activity_told}
use Rattle.us_lawful.proofs.ItemLemmas.{sum_zero}

-- how many lines tell something
abbrev told : {Y : Type 0} → (Row → Option Y) → Row → ℕ
told {Y = Y} tells row = worth (λ (y : Y). 1) (tells row)

-- where none does, nothing is told
nothing_told : {Y : Type 0} (tells : Row → Option Y) (lines : List Row) → sum_by (told tells) lines ≡ 0 →
    filter_map tells lines ≡ []
nothing_told tells [] none = refl
nothing_told {Y = Y} tells (line ∷ lines) none = by (tells line) refl (nothing_told tells lines)
  where
    by : (first : Option Y) → tells line ≡ first → (sum_by (told tells) lines ≡ 0 → filter_map tells lines ≡ []) →
        filter_map tells (line ∷ lines) ≡ []
    by None is rest = rw is (rest (omega (arith, none, sum_by-cons (told tells) line lines)))
    by (Some y) is rest =
        let one : told tells line ≡ 1 = ap (worth (λ (y : Y). 1)) is in
        absurd (omega (arith, none, one, sum_by-cons (told tells) line lines))

-- what neither lines of calendars nor lines of requests tell
pub record IsLast (Y : Type 0) (tells : Row → Option Y) : Type 0 where
  pub calendar : (round : ℕ) (c : Channel) (s : Settled) → tells (settled_row round c s) ≡ None
  pub grant : (round : ℕ) (c : Channel) (g : PlacedClaim) → tells (grant_row round c g) ≡ None

-- a round has nothing of that
round_tells_nothing : {Y : Type 0} (tells : Row → Option Y) (s : State) → IsLast Y tells →
    sum_by (told tells) (round_rows s) ≡ 0
round_tells_nothing {Y = Y} tells s last =
    sum_flat_map (told tells) (rows_in s.round) (builds_of s)
    ∙ sum_zero (λ b. sum_by (told tells) (rows_in s.round b)) (builds_of s) channel
  where
    channel : (b : Built) → sum_by (told tells) (rows_in s.round b) ≡ 0
    channel b = omega (
      arith,
      sum_append (told tells) (map (settled_row s.round b.channel) b.settled) (map (grant_row s.round b.channel) b.grants),
      sum_map (told tells) (settled_row s.round b.channel) b.settled,
      sum_zero (λ x. told tells (settled_row s.round b.channel x)) b.settled
          (λ x. ap (worth (λ (y : Y). 1)) (last.calendar s.round b.channel x)),
      sum_map (told tells) (grant_row s.round b.channel) b.grants,
      sum_zero (λ g. told tells (grant_row s.round b.channel g)) b.grants
          (λ g. ap (worth (λ (y : Y). 1)) (last.grant s.round b.channel g)),
    )

-- all that is told is told at the end
only_last : {Y : Type 0} (tells : Row → Option Y) (t : Tables) (cuts : List (List ℕ)) (counts : Counts) → AreTables t →
    AreCuts t cuts → IsLast Y tells →
    filter_map tells (judged_of (output_of t cuts counts)).lines ≡ filter_map tells (last_rows t cuts counts)
unfolding output_of
only_last tells t cuts counts lawful long is =
    let before : List Row = all_rows (map (out_of t) (schedule (opening t) cuts)) in
    let last : List Row = last_rows t cuts counts in
    let none : sum_by (λ s. sum_by (told tells) (round_rows s)) (rounds_of t cuts) ≡ 0 =
    sum_zero (λ s. sum_by (told tells) (round_rows s)) (rounds_of t cuts) (λ s. round_tells_nothing tells s is) in
    let nothing : sum_by (told tells) before ≡ 0 =
    omega (
      arith,
      none,
      sum_append (told tells) before last,
      sum_lines (told tells) t cuts counts lawful long,
    ) in
    filter_map-append tells before last
    ∙ ap (λ first. first ++ filter_map tells last) (nothing_told tells before nothing)

-- F lines, then A lines, and the U line.

abbrev final_lines : State → List Row
final_lines end = map (final_row end.outstanding end.buckets) (table_order end.tables)

abbrev activity_lines : State → List Row
activity_lines end = activity_rows end.tables.flows (map (activity_of end) end.tables.flows)

last_parts : {Y : Type 0} (tells : Row → Option Y) (t : Tables) (cuts : List (List ℕ)) (counts : Counts) →
    filter_map tells (last_rows t cuts counts)
    ≡ (filter_map tells (final_lines (final (opening t) cuts)) ++ filter_map tells (activity_lines (final (opening t) cuts)))
    ++ filter_map tells (counts_row counts ∷ [])
unfolding final_rows
last_parts tells t cuts counts =
    let end : State = final (opening t) cuts in
    filter_map-append tells (final_lines end ++ activity_lines end) (counts_row counts ∷ [])
    ∙ ap (λ first. first ++ filter_map tells (counts_row counts ∷ []))
    (filter_map-append tells (final_lines end) (activity_lines end))

-- F lines.

-- what the line of a turn tells
abbrev pub final_told : List ℕ → List Level → Turn → FinalState
final_told outstanding buckets turn = record {
  flow = turn.cluster.flow.id;
  cluster = turn.cluster.list;
  outstanding = slice_index outstanding turn.number;
  units = option_and_then units_in (slice_get buckets turn.place);
}

-- no other line is one
not_final : IsLast FinalState as_final
not_final = record { calendar = calendar; grant = λ round c g. refl }
  where
    calendar : (round : ℕ) (c : Channel) (s : Settled) → as_final (settled_row round c s) ≡ None
    calendar round c (settled.Granted kind id i k start slots owner) = refl
    calendar round c (settled.Missed kind id i k) = refl

finals_told : (outstanding : List ℕ) (buckets : List Level) (turns : List Turn) →
    filter_map as_final (map (final_row outstanding buckets) turns) ≡ map (final_told outstanding buckets) turns
finals_told outstanding buckets [] = refl
finals_told outstanding buckets (turn ∷ turns) =
    ap (λ more. final_told outstanding buckets turn ∷ more) (finals_told outstanding buckets turns)

no_finals : (flows : List FlowTable) (active : List (Option Bool)) → filter_map as_final (activity_rows flows active) ≡ []
no_finals [] active = refl
no_finals (flow ∷ flows) [] = refl
no_finals (flow ∷ flows) (None ∷ active) = no_finals flows active
no_finals (flow ∷ flows) (Some is ∷ active) = no_finals flows active

-- they are those of the turns, in table order
pub finals_are : (t : Tables) (cuts : List (List ℕ)) (counts : Counts) → AreTables t → AreCuts t cuts →
    finals_in (judged_of (output_of t cuts counts)).lines
    ≡ map (final_told (final (opening t) cuts).outstanding (final (opening t) cuts).buckets) (table_order t)
finals_are t cuts counts lawful long =
    let end : State = final (opening t) cuts in
    let told : Tables → List FinalState = λ u. map (final_told end.outstanding end.buckets) (table_order u) in
    only_last as_final t cuts counts lawful long not_final ∙ last_parts as_final t cuts counts
    ∙ ap₂ (λ finals others. (finals ++ others) ++ [])
    (finals_told end.outstanding end.buckets (table_order end.tables))
    (no_finals end.tables.flows (map (activity_of end) end.tables.flows))
    ∙ append-nil (told end.tables ++ []) ∙ append-nil (told end.tables)
    ∙ ap told (final_tables (opening t) cuts)

-- A lines.

-- no other line is one
not_activity : IsLast FinalActivity as_activity
not_activity = record { calendar = calendar; grant = λ round c g. refl }
  where
    calendar : (round : ℕ) (c : Channel) (s : Settled) → as_activity (settled_row round c s) ≡ None
    calendar round c (settled.Granted kind id i k start slots owner) = refl
    calendar round c (settled.Missed kind id i k) = refl

no_activities : (outstanding : List ℕ) (buckets : List Level) (turns : List Turn) →
    filter_map as_activity (map (final_row outstanding buckets) turns) ≡ []
no_activities outstanding buckets [] = refl
no_activities outstanding buckets (turn ∷ turns) = no_activities outstanding buckets turns

-- that of a flow is there, and is what the cuts say, if the flow tells its activity
one_told : (run : Run) (f : WordedFlow) (tells : Bool) (active : Option Bool) (lines : List Row) (rest : List WordedFlow) →
    active ≡ (if tells then Some (fold (hears f.word) true run.cuts) else None) →
    filter_map as_activity lines ≡ map (lawful.activity_of run) rest →
    filter_map as_activity (cons_option (option_map (activity_row f.flow) active) lines)
    ≡ map (lawful.activity_of run) (if tells then f ∷ rest else rest)
one_told run f true active lines rest is others = rw is (ap (λ more. lawful.activity_of run f ∷ more) others)
one_told run f false active lines rest is others = rw is others

activities_told : (run : Run) (active : FlowTable → Option Bool) (word : ℕ) (flows : List FlowTable) →
    AllByRecursion (λ (f : WordedFlow). active f.flow
    ≡ (if tells_activity f.flow.kind then Some (fold (hears f.word) true run.cuts) else None)) (with_words word flows) →
    filter_map as_activity (activity_rows flows (map active flows))
    ≡ map (lawful.activity_of run) (filter (λ f. tells_activity f.flow.kind) (with_words word flows))
activities_told run active word [] each = refl
activities_told run active word (flow ∷ flows) each =
    let next : ℕ = word + length (words_in flow) in
    one_told run (record { word = word; flow = flow }) (tells_activity flow.kind) (active flow)
    (activity_rows flows (map active flows)) (filter (λ f. tells_activity f.flow.kind) (with_words next flows)) each.0
    (activities_told run active next flows each.1)

-- they are those of the flows that tell their activity, in table order
pub activities_are : (t : Tables) (cuts : List (List ℕ)) (counts : Counts) → AreTables t → AreCuts t cuts →
    activities_in (judged_of (output_of t cuts counts)).lines
    ≡ map (lawful.activity_of (run_of t cuts counts)) (talking t)
activities_are t cuts counts lawful long =
    let end : State = final (opening t) cuts in
    let told : Tables → List FinalActivity =
    λ u. filter_map as_activity (activity_rows u.flows (map (activity_of end) u.flows)) in
    only_last as_activity t cuts counts lawful long not_activity ∙ last_parts as_activity t cuts counts
    ∙ ap (λ finals. (finals ++ told end.tables) ++ []) (no_activities end.outstanding end.buckets (table_order end.tables))
    ∙ append-nil (told end.tables) ∙ ap told (final_tables (opening t) cuts)
    ∙ activities_told (run_of t cuts counts) (activity_of end) 0 t.flows
    (all_by_places (λ (f : WordedFlow). activity_of end f.flow
    ≡ (if tells_activity f.flow.kind then Some (fold (hears f.word) true cuts) else None)) (with_words 0 t.flows)
    (λ place f at. activity_told t cuts place f lawful at))

-- The U line.

-- no other line is one
not_counts : IsLast TraceCounts as_counts
not_counts = record { calendar = calendar; grant = λ round c g. refl }
  where
    calendar : (round : ℕ) (c : Channel) (s : Settled) → as_counts (settled_row round c s) ≡ None
    calendar round c (settled.Granted kind id i k start slots owner) = refl
    calendar round c (settled.Missed kind id i k) = refl

no_counts : (outstanding : List ℕ) (buckets : List Level) (turns : List Turn) →
    filter_map as_counts (map (final_row outstanding buckets) turns) ≡ []
no_counts outstanding buckets [] = refl
no_counts outstanding buckets (turn ∷ turns) = no_counts outstanding buckets turns

none_counted : (flows : List FlowTable) (active : List (Option Bool)) →
    filter_map as_counts (activity_rows flows active) ≡ []
none_counted [] active = refl
none_counted (flow ∷ flows) [] = refl
none_counted (flow ∷ flows) (None ∷ active) = none_counted flows active
none_counted (flow ∷ flows) (Some is ∷ active) = none_counted flows active

-- there is one, of these counts
pub counts_are : (t : Tables) (cuts : List (List ℕ)) (counts : Counts) → AreTables t → AreCuts t cuts →
    counts_in (judged_of (output_of t cuts counts)).lines ≡ counts_told counts ∷ []
counts_are t cuts counts lawful long =
    let end : State = final (opening t) cuts in
    only_last as_counts t cuts counts lawful long not_counts ∙ last_parts as_counts t cuts counts
    ∙ ap₂ (λ finals activities. (finals ++ activities) ++ counts_told counts ∷ [])
    (no_counts end.outstanding end.buckets (table_order end.tables))
    (none_counted end.tables.flows (map (activity_of end) end.tables.flows))
