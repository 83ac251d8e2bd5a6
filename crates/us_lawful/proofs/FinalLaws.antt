-- The end of a report: an F line for each cluster, with what its other lines leave of it, and the U line.
use Rattle.std.proofs.Common.{◌≡◌, ℕ, ◌-◌, ◌≤◌, ◌==◌, cond, eq-eqb, Bool, true, false, List, [], ◌∷◌, ◌++◌, length, map, take, Option, Some, None, option_map, refl, sym, ap, subst, ◌∙◌, arith, append_assoc}
use Rattle.std.specs.Prelude.{◌&&◌, nat_eq, if◌then◌else◌, filter, count_by, option_and_then, slice_get, slice_index}
use Rattle.std.specs.List.{AllByRecursion, list_all, list_any}
use Rattle.std.specs.Option.{option_eq}
use Rattle.std.proofs.lemmas.Bool.{and_from}
use Rattle.std.proofs.lemmas.List.{take_all}
use Rattle.std.proofs.lemmas.List.Sums.{length-filter}
use Rattle.std.proofs.lemmas.Option.{slice_get-map}
use Rattle.us_flows.specs.Tables.{Tables, rounds_fit}
use Rattle.us_flows.specs.Clusters.{Turn, IsTurnIn, table_order, tells_activity}
use Rattle.us_flows.specs.Lawful.{AreApart, AreTables}
use Rattle.us_flows.proofs.KeyLaws.{one_with}
use Rattle.us_flows.proofs.TurnLaws.{table_order-once, table_order-turns}
use Rattle.us_bucket.specs.Levels.{Level, full, units_in}
use Rattle.us_requests.specs.declared.asks.Counts.{Counts}
use Rattle.us_calendar.specs.Entries.{WordedFlow, with_words}
use Rattle.us_calendar.proofs.OrderLemmas.{worded_ids}
use Rattle.us_output.specs.declared.rows.FinalActivity.{FinalActivity}
use Rattle.us_output.specs.declared.rows.FinalState.{FinalState}
use Rattle.us_output.specs.declared.rows.Row.{Row}
use Rattle.us_output.specs.declared.rows.TraceCounts.{TraceCounts}
use Rattle.us_round.specs.Rounds.{State, opening, final}
use Rattle.us_round.specs.ScheduleLaws.{AreCuts}
use Rattle.us_output.proofs.PartLemmas.{all_found, all_mapped, all_weaker}
use Rattle.us_reports.specs.declared.place.Place.{Place}
use Rattle.us_lawful.specs.Runs.{Run, activities_in, counts_in, counts_told, finals_in}
use Rattle.us_lawful.specs.Credits.{asked_within, credited_within}
use Rattle.us_lawful.specs.Finals.{activities_hold, activity_holds, activity_of, counts_hold, final_holds, final_of, finals_hold, flow_activity_holds, flow_finals_hold, is_final_of, is_same_activity, is_same_counts, is_same_final, level_left, talking, units_left}
use Rattle.us_lawful.specs.Output.{output_of, judged_of, run_of}
use Rattle.us_lawful.proofs.TestLemmas.{all_pass, any_behind, any_first}
use Rattle.us_lawful.proofs.GrantLemmas.{same_cluster}
use Rattle.us_lawful.proofs.ItemLemmas.{any_placed, filter_mapped, filter_same, one_passes, sum_most}
use Rattle.us_lawful.proofs.SameLemmas.{sum_filter, sum_map}
use Rattle.us_lawful.proofs.CreditLineLaws.{all_placed, counted_there}
use Rattle.us_lawful.proofs.BucketLemmas.{flow_left}
use Rattle.us_lawful.proofs.RateLaws.{flow_credits_are}
use Rattle.us_lawful.proofs.SumLaws.{bytes_balance}
use Rattle.us_lawful.proofs.LastLineLemmas.{activities_are, counts_are, final_told, finals_are}

-- What a line tells.

-- what is left of a cluster
left_is : (t : Tables) (cuts : List (List ℕ)) (counts : Counts) → AreTables t → AreCuts t cuts → (turn : Turn) →
    IsTurnIn t turn →
    slice_index (final (opening t) cuts).outstanding turn.number
    ≡ asked_within (run_of t cuts counts) (length cuts) turn.number
    - credited_within (judged_of (output_of t cuts counts)).lines (length cuts) turn.cluster
left_is t cuts counts lawful long turn known =
    let all : take (length cuts) cuts ≡ cuts = take_all (length cuts) cuts (omega arith) in
    omega (
      arith,
      bytes_balance t cuts counts lawful long (length cuts) turn known,
      ap (λ (these : List (List ℕ)). slice_index (final (opening t) these).outstanding turn.number) all,
    )

-- and of its flow's bucket
units_are : (t : Tables) (cuts : List (List ℕ)) (counts : Counts) → AreTables t → AreCuts t cuts → (turn : Turn) →
    IsTurnIn t turn →
    option_and_then units_in (slice_get (final (opening t) cuts).buckets turn.place)
    ≡ units_left (run_of t cuts counts) (judged_of (output_of t cuts counts)).lines turn.cluster.flow
units_are t cuts counts lawful long turn known =
    ap (option_and_then units_in) (flow_left t cuts turn.place turn.cluster.flow known.flow)
    ∙ ap (λ bytes. units_in (level_left t.round_ticks bytes (full turn.cluster.flow.rate turn.cluster.flow.burst)))
    (sym (flow_credits_are t cuts counts lawful long turn.place turn.cluster.flow known.flow))

-- so that the line of a turn is right
final_is : (t : Tables) (cuts : List (List ℕ)) (counts : Counts) → AreTables t → AreCuts t cuts → (turn : Turn) →
    IsTurnIn t turn →
    final_told (final (opening t) cuts).outstanding (final (opening t) cuts).buckets turn
    ≡ final_of (run_of t cuts counts) (judged_of (output_of t cuts counts)).lines turn
final_is t cuts counts lawful long turn known =
    let left = left_is t cuts counts lawful long turn known in
    let units = units_are t cuts counts lawful long turn known in
    λ i. record {
      flow = turn.cluster.flow.id;
      cluster = turn.cluster.list;
      outstanding = left i;
      units = units i;
    }

-- One line for each turn.

-- it is of one of these
abbrev IsOneOf : List Turn → FinalState → Type 0
IsOneOf turns f = list_any (λ turn. is_final_of turn f) turns ≡ true

-- each line is of a turn
all_known : (outstanding : List ℕ) (buckets : List Level) (before turns : List Turn) →
    AllByRecursion (IsOneOf (before ++ turns)) (map (final_told outstanding buckets) turns)
all_known outstanding buckets before [] = tt
all_known outstanding buckets before (turn ∷ turns) =
    let told : FinalState = final_told outstanding buckets turn in (
      any_behind (λ turn. is_final_of turn told) before (turn ∷ turns)
          (any_first (λ turn. is_final_of turn told) turn turns
          (and_from (told.flow == told.flow) (told.cluster == told.cluster) (eq-eqb told.flow told.flow refl)
          (eq-eqb told.cluster told.cluster refl))),
      subst (λ all. AllByRecursion (IsOneOf all) (map (final_told outstanding buckets) turns))
          (append_assoc before (turn ∷ []) turns) (all_known outstanding buckets (before ++ turn ∷ []) turns),
    )

-- and each turn has one
one_final : (t : Tables) (outstanding : List ℕ) (buckets : List Level) (place : ℕ) (turn : Turn) → AreTables t →
    slice_get (table_order t) place ≡ Some turn →
    filter (is_final_of turn) (map (final_told outstanding buckets) (table_order t))
    ≡ final_told outstanding buckets turn ∷ []
one_final t outstanding buckets place turn lawful at =
    let turns : List Turn = table_order t in
    let told : Turn → FinalState = final_told outstanding buckets in
    let known : IsTurnIn t turn = all_found (IsTurnIn t) turns place turn (table_order-turns t) at in
    let is_it : Turn → Bool = λ other. other.number == turn.number in
    filter_mapped (is_final_of turn) told turns
    ∙ ap (map told) (filter_same (λ other. is_final_of turn (told other)) is_it turns
    (all_weaker (IsTurnIn t) (λ other. is_final_of turn (told other) ≡ is_it other)
    (λ other is. same_cluster t other turn lawful is known) turns (table_order-turns t))
    ∙ one_passes is_it turns place turn at (eq-eqb turn.number turn.number refl) (table_order-once t turn.number))

-- Rules.

-- what holds, holds under a condition
where_asked : (asked holds : Bool) → holds ≡ true → (if asked then holds else true) ≡ true
where_asked true holds is = is
where_asked false holds is = refl

-- a line is the same as itself
same_units : (units : Option ℕ) → option_eq nat_eq units units ≡ true
same_units None = refl
same_units (Some units) = eq-eqb units units refl

same_final : (f : FinalState) → is_same_final f f ≡ true
same_final f =
    rw (eq-eqb f.flow f.flow refl, eq-eqb f.cluster f.cluster refl, eq-eqb f.outstanding f.outstanding refl)
    (same_units f.units)

same_counts : (c : TraceCounts) → is_same_counts c c ≡ true
same_counts c =
    rw (eq-eqb c.unknown c.unknown refl, eq-eqb c.not_requestable c.not_requestable refl, eq-eqb c.late c.late refl) refl

-- a cluster has its F line
one_holds : (t : Tables) (cuts : List (List ℕ)) (counts : Counts) → AreTables t → AreCuts t cuts →
    (place : ℕ) (turn : Turn) → slice_get (table_order t) place ≡ Some turn →
    final_holds (run_of t cuts counts) (judged_of (output_of t cuts counts)).lines turn ≡ true
one_holds t cuts counts lawful long place turn at =
    let lines : List Row = (judged_of (output_of t cuts counts)).lines in
    let end : State = final (opening t) cuts in
    let told : Turn → FinalState = final_told end.outstanding end.buckets in
    let right : FinalState = final_of (run_of t cuts counts) lines turn in
    let are : finals_in lines ≡ map told (table_order t) = finals_are t cuts counts lawful long in
    let is : told turn ≡ right =
    final_is t cuts counts lawful long turn (all_found (IsTurnIn t) (table_order t) place turn (table_order-turns t) at) in
    let there : slice_get (finals_in lines) place ≡ Some right =
    ap (λ all. slice_get all place) are ∙ slice_get-map told (table_order t) place ∙ ap (option_map told) at ∙ ap Some is in
    let one : filter (is_final_of turn) (finals_in lines) ≡ told turn ∷ [] =
    ap (filter (is_final_of turn)) are ∙ one_final t end.outstanding end.buckets place turn lawful at in
    and_from (count_by (is_final_of turn) (finals_in lines) == 1) (list_any (is_same_final right) (finals_in lines))
    (eq-eqb (count_by (is_final_of turn) (finals_in lines)) 1
    (omega (arith, length-filter (is_final_of turn) (finals_in lines), ap length one)))
    (any_placed (is_same_final right) (finals_in lines) place right there (same_final right))

-- In every run there is an F line for each cluster, and it is right.
pub finals_are_lawful : (t : Tables) (cuts : List (List ℕ)) (counts : Counts) → AreTables t → AreCuts t cuts →
    rounds_fit t (length cuts) ≡ true → (p : Place) →
    finals_hold (run_of t cuts counts) (judged_of (output_of t cuts counts)) p ≡ true
finals_are_lawful t cuts counts lawful long fit p =
    let run : Run = run_of t cuts counts in
    let lines : List Row = (judged_of (output_of t cuts counts)).lines in
    let end : State = final (opening t) cuts in
    let turns : List Turn = table_order t in
    let told : Turn → FinalState = final_told end.outstanding end.buckets in
    let known : FinalState → Bool =
    λ f. if f.flow == p.third then list_any (λ turn. is_final_of turn f) turns else true in
    let each : Turn → Bool = λ turn. if turn.cluster.flow.id == p.third then final_holds run lines turn else true in
    where_asked ((p.round == run.rounds) && (p.channel == 0)) (flow_finals_hold run lines p.third)
    (and_from (list_all known (finals_in lines)) (list_all each turns)
    (subst (λ all. list_all known all ≡ true) (sym (finals_are t cuts counts lawful long))
    (all_pass known (map told turns) (all_weaker (IsOneOf turns) (λ f. known f ≡ true)
    (λ f is. where_asked (f.flow == p.third) (list_any (λ turn. is_final_of turn f) turns) is) (map told turns)
    (all_known end.outstanding end.buckets [] turns))))
    (all_pass each turns (all_placed (λ turn. each turn ≡ true) turns
    (λ place turn at. where_asked (turn.cluster.flow.id == p.third) (final_holds run lines turn)
    (one_holds t cuts counts lawful long place turn at)))))

-- A lines.

-- what holds where it is asked, holds under that condition
if_asked : (asked holds : Bool) → (asked ≡ true → holds ≡ true) → (if asked then holds else true) ≡ true
if_asked true holds is = is refl
if_asked false holds is = refl

same_activity : (a : FinalActivity) → is_same_activity a a ≡ true
same_activity a =
    and_from (a.flow == a.flow) (a.active == a.active) (eq-eqb a.flow a.flow refl) (eq-eqb a.active a.active refl)

-- of some no more pass than of all
fewer_filtered : {X : Type 0} (p q : X → Bool) (xs : List X) → count_by q (filter p xs) ≤ count_by q xs
fewer_filtered p q xs = omega (
  arith,
  sum_filter (λ x. cond (q x) 1 0) p xs,
  sum_most (λ x. cond (p x) (cond (q x) 1 0) 0) (λ x. cond (q x) 1 0) xs (λ x. few (p x) (cond (q x) 1 0)),
)
  where
    few : (b : Bool) (n : ℕ) → cond b n 0 ≤ n
    few true n = omega arith
    few false n = omega arith

-- a flow that tells its activity has its A line
one_activity : (t : Tables) (cuts : List (List ℕ)) (counts : Counts) → AreTables t → AreCuts t cuts →
    (place : ℕ) (f : WordedFlow) → slice_get (talking t) place ≡ Some f →
    activity_holds (run_of t cuts counts) (judged_of (output_of t cuts counts)).lines f ≡ true
one_activity t cuts counts lawful long place f at =
    let all : List FinalActivity = activities_in (judged_of (output_of t cuts counts)).lines in
    let right : WordedFlow → FinalActivity = activity_of (run_of t cuts counts) in
    let own : WordedFlow → Bool = λ other. other.flow.id == f.flow.id in
    let are : all ≡ map right (talking t) = activities_are t cuts counts lawful long in
    let there : slice_get all place ≡ Some (right f) =
    ap (λ all. slice_get all place) are ∙ slice_get-map right (talking t) place ∙ ap (option_map right) at in
    let count : count_by (λ (a : FinalActivity). a.flow == f.flow.id) all ≡ count_by own (talking t) =
    ap (count_by (λ (a : FinalActivity). a.flow == f.flow.id)) are
    ∙ sum_map (λ (a : FinalActivity). cond (a.flow == f.flow.id) 1 0) right (talking t) in
    and_from (count_by (λ (a : FinalActivity). a.flow == f.flow.id) all == 1) (list_any (is_same_activity (right f)) all)
    (eq-eqb (count_by (λ (a : FinalActivity). a.flow == f.flow.id) all) 1 (omega (
      arith,
      count,
      counted_there own (talking t) place f at (eq-eqb f.flow.id f.flow.id refl),
      fewer_filtered (λ (f : WordedFlow). tells_activity f.flow.kind) own (with_words 0 t.flows),
      one_with (λ (f : WordedFlow). f.flow.id) (with_words 0 t.flows) f.flow.id
          (subst AreApart (sym (worded_ids 0 t.flows)) lawful.flows_apart),
    )))
    (any_placed (is_same_activity (right f)) all place (right f) there (same_activity (right f)))

-- In every run there is an A line for each of these flows, and it is right.
pub activities_are_lawful : (t : Tables) (cuts : List (List ℕ)) (counts : Counts) → AreTables t → AreCuts t cuts →
    rounds_fit t (length cuts) ≡ true → (p : Place) →
    activities_hold (run_of t cuts counts) (judged_of (output_of t cuts counts)) p ≡ true
activities_are_lawful t cuts counts lawful long fit p =
    let run : Run = run_of t cuts counts in
    let lines : List Row = (judged_of (output_of t cuts counts)).lines in
    let own : WordedFlow → Bool = λ f. f.flow.id == p.third in
    let known : FinalActivity → Bool = λ a. if a.flow == p.third then list_any own (talking t) else true in
    let each : WordedFlow → Bool = λ f. if own f then activity_holds run lines f else true in
    where_asked ((p.round == run.rounds) && (p.channel == 0)) (flow_activity_holds run lines p.third)
    (and_from (list_all known (activities_in lines)) (list_all each (talking t))
    (subst (λ all. list_all known all ≡ true) (sym (activities_are t cuts counts lawful long))
    (all_pass known (map (activity_of run) (talking t)) (all_mapped (λ a. known a ≡ true) (activity_of run) (talking t)
    (all_placed (λ f. known (activity_of run f) ≡ true) (talking t)
    (λ place f at. if_asked (own f) (list_any own (talking t)) (any_placed own (talking t) place f at))))))
    (all_pass each (talking t) (all_placed (λ f. each f ≡ true) (talking t)
    (λ place f at. where_asked (own f) (activity_holds run lines f)
    (one_activity t cuts counts lawful long place f at)))))

-- There is one U line, with the counts of the run.
pub counts_are_lawful : (t : Tables) (cuts : List (List ℕ)) (counts : Counts) → AreTables t → AreCuts t cuts →
    rounds_fit t (length cuts) ≡ true → (p : Place) →
    counts_hold (run_of t cuts counts) (judged_of (output_of t cuts counts)) p ≡ true
counts_are_lawful t cuts counts lawful long fit p =
    let run : Run = run_of t cuts counts in
    let all : List TraceCounts = counts_in (judged_of (output_of t cuts counts)).lines in
    let right : TraceCounts = counts_told counts in
    let are : all ≡ right ∷ [] = counts_are t cuts counts lawful long in
    where_asked ((p.round == run.rounds) && (p.channel == 0) && (p.third == 0))
    ((length all == 1) && list_any (is_same_counts right) all)
    (and_from (length all == 1) (list_any (is_same_counts right) all)
    (eq-eqb (length all) 1 (omega (arith, ap length are)))
    (subst (λ these. list_any (is_same_counts right) these ≡ true) (sym are)
    (any_first (is_same_counts right) right [] (same_counts right))))
