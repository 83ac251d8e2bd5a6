-- F lines, A lines and U lines are judged by what they tell.
use Rattle.std.proofs.Common.{◌≡◌, ℕ, ◌-◌, ◌<◌, ◌==◌, Bool, true, false, List, length, map, get_or, Option, Some, refl, sym, subst, ap, ap₂, ◌∙◌, inl, inr, arith, eq-eqb, ne_eqb, zero, suc, [], ◌∷◌, None}
use Rattle.std.specs.Prelude.{◌&&◌, nat_eq, if◌then◌else◌, slice_index}
use Rattle.std.specs.List.{list_all, list_any, AllByRecursion}
use Rattle.std.specs.Option.{is_some, option_eq}
use Rattle.std.proofs.lemmas.Bool.{cases_eq, false≢true, and_parts, cases_Bool, eqb-true}
use Rattle.std.proofs.lemmas.List.Elements.{filter_agree}
use Rattle.us_flows.specs.Tables.{Tables, FlowTable}
use Rattle.us_flows.specs.Clusters.{Turn, table_order, words_of}
use Rattle.us_flows.specs.Lawful.{AreTables}
use Rattle.us_requests.specs.Traces.{IsTrace, TraceAsks}
use Rattle.us_output.specs.declared.rows.FinalState.{FinalState}
use Rattle.us_output.proofs.PartLemmas.{all_both, all_weaker}
use Rattle.us_reports.specs.declared.place.Place.{Place}
use Rattle.us_lawful.specs.Runs.{Judged, finals_in, run_in, activities_in, counts_in, counts_told}
use Rattle.us_lawful.specs.Finals.{final_holds, final_of, finals_hold, is_final_of, is_same_final, activities_hold, activity_holds, activity_of, is_same_activity, talking, counts_hold, is_same_counts}
use Rattle.us_reports.specs.Order.{earlier}
use Rattle.us_reports.specs.Breaches.{Any, At, IsFirstBreach, IsFirstFailure}
use Rattle.us_reports.proofs.BreachLemmas.{same_places, at_test, holds_first}
use Rattle.us_reports.proofs.AnyLemmas.{any_each}
use Rattle.us_credit_rules.specs.declared.credit_lines.CreditLines.{CreditLines}
use Rattle.us_credit_rules.specs.declared.ledgers.Account.{Account}
use Rattle.us_credit_rules.specs.declared.told.Told.TheVariants.{Nothing}
use Rattle.us_credit_rules.specs.CreditLines.{AreKept}
use Rattle.us_credit_rules.specs.Ends.{end_place, first_of, unless}
use Rattle.us_credit_rules.specs.LastLines.{final_place, is_right, tells}
use Rattle.us_credit_rules.specs.Ledgers.{AreAsked, account_at}
use Rattle.us_credit_rules.specs.Seats.{is_number, names, word_of}
use Rattle.us_credit_rules.specs.Tellings.{is_once, told_by}
use Rattle.us_credit_rules.proofs.EndLemmas.{EndFails, ends_first, first_among}
use Rattle.us_credit_rules.proofs.KeptLemmas.{IsCreditedTurn, credited_turns, flow_account}
use Rattle.us_credit_rules.proofs.LedgerLemmas.{left_is}
use Rattle.us_credit_rules.proofs.SeatLemmas.{any_word, named_word}
use Rattle.us_credit_rules.proofs.TellingLemmas.{once_told, one_told}
use Rattle.std.proofs.lemmas.List.Folds.{list_all-map}
use Rattle.us_calendar.specs.Entries.{WordedFlow}
use Rattle.us_output.specs.declared.rows.FinalActivity.{FinalActivity}
use Rattle.us_lawful.proofs.CreditLineLaws.{all_placed}
use Rattle.us_lawful.proofs.ItemLemmas.{any_placed, of_each}
use Rattle.us_activity.specs.Activities.{AreMarksOf}
use Rattle.us_activity.specs.Marks.{Marks}
use Rattle.us_credit_rules.specs.declared.talkers.Talker.{Talker}
use Rattle.us_credit_rules.specs.declared.told.Told.{Told}
use Rattle.us_credit_rules.specs.Activities.{line_of, talker_at, talker_of, talker_place}
use Rattle.us_credit_rules.proofs.TalkerLemmas.{lines_are}
use Rattle.us_flows.specs.declared.channels.Channel.{Channel}
use Rattle.us_output.specs.declared.rows.TraceCounts.{TraceCounts}
use Rattle.us_reports.proofs.OrderLemmas.{place-is}

-- F lines.

pub turned : (x y : ℕ) → (x == y) ≡ (y == x)
turned x y = elim (cases_eq x y) [
  | inl same ↦ eq-eqb x y same ∙ sym (eq-eqb y x (sym same))
  | inr other ↦ ne_eqb x y other ∙ sym (ne_eqb y x (λ same. other (sym same)))
]

-- an F line tells what is left, beside the cluster that it names
same_parts : (right f : FinalState) (turn : Turn) → right.flow ≡ turn.cluster.flow.id →
    right.cluster ≡ turn.cluster.list →
    is_same_final right f ≡ (is_final_of turn f && tells right.outstanding right.units f)
same_parts right f turn flow list =
    ap₂ (λ a b. a && b && (right.outstanding == f.outstanding) && option_eq nat_eq right.units f.units)
    (ap (λ n. n == f.flow) flow ∙ turned turn.cluster.flow.id f.flow)
    (ap (λ n. n == f.cluster) list ∙ turned turn.cluster.list f.cluster)
    ∙ grouped (f.flow == turn.cluster.flow.id) (f.cluster == turn.cluster.list) (right.outstanding == f.outstanding)
    (option_eq nat_eq right.units f.units)
  where
    grouped : (a b c d : Bool) → (a && b && c && d) ≡ (a && b && (c && d))
    grouped true true c d = refl
    grouped true false c d = refl
    grouped false b c d = refl

module _ (t : Tables) (v : TraceAsks) (judged : Judged) (kept : CreditLines) (lawful : AreTables t) (trace : IsTrace v)
    (are : AreKept t v judged.lines kept) (all : List ℕ) (asked : AreAsked v v.rounds all)
    (long : length all ≡ length (words_of t)) where
  abbrev own : Turn → Bool
  own turn = final_holds (run_in t v) judged.lines turn

  abbrev told : List (Told FinalState)
  told = kept.finals.told.items

  -- a cluster has its own where just one line names it, and tells what is left
  final_right : (turn : Turn) → IsCreditedTurn t v judged.lines kept turn →
      own turn ≡ is_right v.rounds t.round_ticks all kept.requests (get_or told turn.number Nothing) turn
  final_right turn is =
      let finals : List FinalState = finals_in judged.lines in
      let right : FinalState = final_of (run_in t v) judged.lines turn in
      let flow : FlowTable = turn.cluster.flow in
      let account : Account = account_at kept.requests.ledger.accounts.items turn.number in
      let left : slice_index all turn.number - account.credited ≡ right.outstanding =
      ap (λ n. n - account.credited) (asked.asked turn.number (omega (arith, long, is.0.number)))
      ∙ left_is t v judged.lines turn account is.0.number is.1 trace in
      let bucket = (flow_account t v judged.lines kept turn.place flow lawful is.0.flow is.0.requests are).left in
      once_told (tells right.outstanding right.units) (is_same_final right) (is_final_of turn)
      (λ f. same_parts right f turn refl refl) finals
      ∙ ap (λ own. is_once (tells right.outstanding right.units) (told_by own))
      (filter_agree (is_final_of turn) (λ (f : FinalState). is_number turn.number (word_of f.flow f.cluster (table_order t)))
      (λ f. named_word t turn f.flow f.cluster lawful is.0) finals)
      ∙ ap (is_once (tells right.outstanding right.units)) (sym (are.finals.told turn.number is.0.number))
      ∙ ap₂ (λ n u. is_once (tells n u) (get_or told turn.number Nothing)) (sym left) (sym bucket)

  -- so this is the first place, of these and of lines that name no cluster
  pub finals_first : IsFirstBreach t.channels (λ p. finals_hold (run_in t v) judged p ≡ true)
      (earlier t.channels kept.finals.strange
      (first_of t.channels (final_place v.rounds t.round_ticks all kept.requests told) kept.seats))
  finals_first =
      let turns : List Turn = table_order t in
      let finals : List FinalState = finals_in judged.lines in
      let place : Turn → Option Place = final_place v.rounds t.round_ticks all kept.requests told in
      let known : FinalState → Bool = λ f. list_any (λ turn. is_final_of turn f) turns in
      let named : (f : FinalState) → known f ≡ is_some (word_of f.flow f.cluster turns) =
      (λ f. any_word (names f.flow f.cluster) turns) in
      let Strange : FinalState → Place → Type 0 =
      λ f. At (end_place v.rounds f.flow) (is_some (word_of f.flow f.cluster turns)) in
      let Unknown : FinalState → Place → Type 0 = EndFails (λ (f : FinalState). f.flow) known v.rounds in
      let Wrong : Turn → Place → Type 0 = EndFails (λ (turn : Turn). turn.cluster.flow.id) own v.rounds in
      ends_first (λ (f : FinalState). f.flow) known (λ (turn : Turn). turn.cluster.flow.id) own v.rounds finals turns
      (finals_hold (run_in t v) judged) (λ p. refl) t.channels kept.finals.strange (first_of t.channels place kept.seats)
      (same_places t.channels (Any Strange finals) (Any Unknown finals) kept.finals.strange
      (λ p fails. any_each Strange Unknown finals p (λ f out. (out.0, named f ∙ out.1)) fails)
      (λ p fails. any_each Unknown Strange finals p (λ f out. (out.0, sym (named f) ∙ out.1)) fails)
      are.finals.strange)
      (subst (λ seats. IsFirstFailure t.channels (Any Wrong turns) (first_of t.channels place seats)) (sym are.seats)
      (first_among t.channels Wrong place turns
      (all_weaker (IsCreditedTurn t v judged.lines kept) (λ turn. IsFirstFailure t.channels (Wrong turn) (place turn))
      (λ turn is. subst (λ right. IsFirstFailure t.channels (Wrong turn) (unless right (end_place v.rounds turn.cluster.flow.id)))
      (final_right turn is) (at_test t.channels (end_place v.rounds turn.cluster.flow.id) (own turn)))
      turns (credited_turns t v judged.lines kept are))))

-- A lines.

-- tests that agree
all_agree : {X : Type 0} (p q : X → Bool) (xs : List X) → AllByRecursion (λ x. p x ≡ q x) xs → list_all p xs ≡ list_all q xs
all_agree p q [] same = refl
all_agree p q (x ∷ xs) same = ap₂ (λ a b. a && b) same.0 (all_agree p q xs same.1)

-- an index has a code below its length
pub code_inside : (places : List (Option ℕ)) (code : ℕ) → is_some (get_or places code None) ≡ true → code < length places
code_inside [] code is = absurd (false≢true is)
code_inside (place ∷ places) zero is = omega arith
code_inside (place ∷ places) (suc code) is = omega (arith, code_inside places code is)

module _ (t : Tables) (v : TraceAsks) (judged : Judged) (kept : CreditLines) (are : AreKept t v judged.lines kept)
    (marks : Marks) (marked : AreMarksOf t v marks) where
  abbrev lines : List FinalActivity
  lines = activities_in judged.lines

  abbrev talks : ℕ → Bool
  talks id = list_any (λ f. f.flow.id == id) (talking t)

  abbrev once : Talker → Bool
  once talker =
      is_once (is_same_activity (line_of marks v.rounds talker)) (get_or kept.talkers.told.told.items talker.id Nothing)

  known : (a : FinalActivity) (id : ℕ) → (if a.flow == id then is_some (talker_at t a.flow) else true)
      ≡ (if a.flow == id then talks id else true)
  known a id = elim (cases_eq a.flow id) [
    | inl same ↦ rw same (ap (λ b. if id == id then b else true) (found (talks id)))
    | inr other ↦ rw (ne_eqb a.flow id other) refl
  ]
    where
      found : (b : Bool) → is_some (if b then Some id else None) ≡ b
      found true = refl
      found false = refl

  -- a flow has its own where just that is told
  own_line : (f : WordedFlow) → talks f.flow.id ≡ true → line_of marks v.rounds (talker_of f) ≡ activity_of (run_in t v) f →
      once (talker_of f) ≡ activity_holds (run_in t v) judged.lines f
  own_line f talker line =
      let id : ℕ = f.flow.id in
      let wanted : FinalActivity = activity_of (run_in t v) f in
      let inside : id < length kept.talkers.ids.items =
      code_inside kept.talkers.ids.items id (are.talkers.ids id ∙ talker) in
      ap (λ these. is_once (is_same_activity these) (get_or kept.talkers.told.told.items id Nothing)) line
      ∙ ap (is_once (is_same_activity wanted)) (are.talkers.told.told id inside)
      ∙ ap (λ these. is_once (is_same_activity wanted) (told_by these))
      (sym (filter_agree (λ (a : FinalActivity). a.flow == id) (λ a. is_number id (talker_at t a.flow)) named lines))
      ∙ sym (once_told (is_same_activity wanted) (is_same_activity wanted) (λ (a : FinalActivity). a.flow == id)
      (λ a. ap (λ b. b && (wanted.active == a.active)) (turned id a.flow) ∙ twice (a.flow == id) (wanted.active == a.active)
      ∙ ap (λ b. (a.flow == id) && (b && (wanted.active == a.active))) (turned a.flow id)) lines)
    where
      twice : (a b : Bool) → (a && b) ≡ (a && (a && b))
      twice true b = refl
      twice false b = refl

      none : (a : FinalActivity) → (a.flow ≡ f.flow.id → ⊥) → (b : Bool) →
          is_number f.flow.id (if b then Some a.flow else None) ≡ false
      none a other true = ne_eqb a.flow f.flow.id other
      none a other false = refl

      named : (a : FinalActivity) → (a.flow == f.flow.id) ≡ is_number f.flow.id (talker_at t a.flow)
      named a = elim (cases_eq a.flow f.flow.id) [
        | inl same ↦ rw (same, talker) refl
        | inr other ↦ ne_eqb a.flow f.flow.id other ∙ sym (none a other (talks a.flow))
      ]

  own_there : (id : ℕ) →
      list_all (λ talker. if talker.id == id then once talker else true) (map talker_of (talking t))
      ≡ list_all (λ f. if f.flow.id == id then activity_holds (run_in t v) judged.lines f else true) (talking t)
  own_there id =
      let Talks : WordedFlow → Type 0 = λ f. talks f.flow.id ≡ true in
      let Tells : WordedFlow → Type 0 = λ f. line_of marks v.rounds (talker_of f) ≡ activity_of (run_in t v) f in
      list_all-map (λ (talker : Talker). if talker.id == id then once talker else true) talker_of (talking t)
      ∙ all_agree (λ f. if f.flow.id == id then once (talker_of f) else true)
      (λ f. if f.flow.id == id then activity_holds (run_in t v) judged.lines f else true) (talking t)
      (all_weaker (λ f. Talks f × Tells f) (λ f. (if f.flow.id == id then once (talker_of f) else true)
      ≡ (if f.flow.id == id then activity_holds (run_in t v) judged.lines f else true))
      (λ f both. ap (λ b. if f.flow.id == id then b else true) (own_line f both.0 both.1)) (talking t)
      (all_both Talks Tells (talking t) (all_placed Talks (talking t) (λ place f at.
      any_placed (λ g. g.flow.id == f.flow.id) (talking t) place f at (eq-eqb f.flow.id f.flow.id refl)))
      (lines_are t v marks marked)))

  -- so this is the first place, of these and of lines of other flows
  pub activities_first : IsFirstBreach t.channels (λ p. activities_hold (run_in t v) judged p ≡ true)
      (earlier t.channels kept.talkers.told.strange
      (first_of t.channels (talker_place marks v.rounds kept.talkers.told.told.items) kept.talkers.all.items))
  activities_first =
      let all : List Talker = map talker_of (talking t) in
      let place : Talker → Option Place = talker_place marks v.rounds kept.talkers.told.told.items in
      let Wrong : Talker → Place → Type 0 = EndFails (λ (talker : Talker). talker.id) once v.rounds in
      let strange : (id : ℕ) → list_all (λ a. if a.flow == id then is_some (talker_at t a.flow) else true) lines
      ≡ list_all (λ a. if a.flow == id then talks id else true) lines =
      (λ id. all_agree (λ (a : FinalActivity). if a.flow == id then is_some (talker_at t a.flow) else true)
      (λ a. if a.flow == id then talks id else true) lines
      (of_each (λ (a : FinalActivity). (if a.flow == id then is_some (talker_at t a.flow) else true) ≡ (if a.flow == id then talks id else true))
      lines (λ a. known a id))) in
      ends_first (λ (a : FinalActivity). a.flow) (λ a. is_some (talker_at t a.flow)) (λ (talker : Talker). talker.id) once
      v.rounds lines all (activities_hold (run_in t v) judged)
      (λ p. ap (λ b. if (p.round == v.rounds) && (p.channel == 0) then b else true)
      (ap₂ (λ a b. a && b) (strange p.third) (own_there p.third)))
      t.channels kept.talkers.told.strange (first_of t.channels place kept.talkers.all.items) are.talkers.told.strange
      (subst (λ talkers. IsFirstFailure t.channels (Any Wrong all) (first_of t.channels place talkers)) (sym are.talkers.all)
      (first_among t.channels Wrong place all
      (of_each (λ talker. IsFirstFailure t.channels (Wrong talker) (place talker)) all
      (λ talker. at_test t.channels (end_place v.rounds talker.id) (once talker)))))

-- U lines.

pub counts_first : (channels : List Channel) (t : Tables) (v : TraceAsks) (judged : Judged) (kept : CreditLines)
    (right : Bool) → AreKept t v judged.lines kept →
    right ≡ is_once (is_same_counts (counts_told v.counts)) kept.counts →
    IsFirstBreach channels (λ p. counts_hold (run_in t v) judged p ≡ true) (unless right (end_place v.rounds 0))
counts_first channels t v judged kept right are is =
    holds_first channels (counts_hold (run_in t v) judged) (unless right at)
    (same_places channels (At at right) (λ p. counts_hold (run_in t v) judged p ≡ false) (unless right at) there back
    (at_test channels at right))
  where
    at : Place
    at = end_place v.rounds 0

    test : TraceCounts → Bool
    test = is_same_counts (counts_told v.counts)

    all : right ≡ ((length (counts_in judged.lines) == 1) && list_any test (counts_in judged.lines))
    all = is ∙ ap (is_once test) are.counts ∙ sym (one_told test (counts_in judged.lines))

    there : (p : Place) → At at right p → counts_hold (run_in t v) judged p ≡ false
    there p fails =
        ap (counts_hold (run_in t v) judged) fails.0
        ∙ rw (eq-eqb v.rounds v.rounds refl) (sym all ∙ fails.1)

    back : (p : Place) → counts_hold (run_in t v) judged p ≡ false → At at right p
    back p fails = elim (cases_Bool ((p.round == v.rounds) && (p.channel == 0) && (p.third == 0))) [
      | inl here ↦
          let parts = and_parts ((p.round == v.rounds) && (p.channel == 0)) (p.third == 0) here in
          let first = and_parts (p.round == v.rounds) (p.channel == 0) parts.0 in (
            place-is p at (eqb-true p.round v.rounds first.0) (eqb-true p.channel 0 first.1) (eqb-true p.third 0 parts.1),
            all ∙ rw here at fails,
          )
      | inr elsewhere ↦ absurd (false≢true (sym (rw elsewhere at fails)))
    ]
