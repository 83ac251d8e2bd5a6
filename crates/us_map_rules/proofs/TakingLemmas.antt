-- Lines: what one names, and what one more tells, of the entry that it calls alone.
use Rattle.std.proofs.Common.{◌≡◌, ℕ, ◌<◌, ◌&&◌, Bool, true, false, List, [], ◌∷◌, ◌++◌, length, get_or, set, cond, ne_eqb, Option, Some, None, refl, ap, ap₂, sym, subst, ◌∙◌, inl, inr, arith, ◌+◌, ◌*◌, ◌/◌, ◌≤◌, ◌==◌, nat_lt, div-lt_iff_lt-mul, lt-ltb, ltb-true}
use Rattle.std.specs.List.{list_any}
use Rattle.std.specs.Option.{option_to_list}
use Rattle.std.specs.Prelude.{All, IfSome, filter_map, if◌then◌else◌, not, option_and_then, option_map}
use Rattle.std.proofs.lemmas.Bool.{and_parts, cases_Bool, cases_eq, false_from_ne_true, false≢true}
use Rattle.std.proofs.lemmas.List.{append-nil, get_or-set_other, get_or-set_same, get_or_default}
use Rattle.std.proofs.lemmas.List.Elements.{filter_map-append}
use Rattle.std.proofs.lemmas.List.Folds.{list_any_at, list_any_none}
use Rattle.std.proofs.lemmas.List.Sums.{sum_by-append, sum_by-cons}
use Rattle.std.proofs.lemmas.Nat.{mul-le}
use Rattle.us_calendar.specs.Entries.{Entry, IsEntry}
use Rattle.us_calendar.specs.Occurrences.{comes, ideal, window_end}
use Rattle.us_calendar.specs.declared.kinds.Kind.{Kind}
use Rattle.us_output.specs.declared.rows.EntryWord.{EntryWord}
use Rattle.us_output.specs.declared.rows.EntryWord.TheVariants as words
use Rattle.us_output.specs.declared.rows.Row.{Row}
use Rattle.us_output.specs.declared.rows.Row.TheVariants as rows
use Rattle.us_lawful.proofs.NameLemmas.{no_request}
use Rattle.us_lawful.specs.CalendarLines.{ChannelEntry, closes, is_right_line, is_calendar_line_at, is_named, is_there, is_word, names, number_of, round_quarters, speaks_in, times}
use Rattle.us_lawful.specs.Runs.{Run}
use Rattle.us_flows.specs.declared.channels.Channel.{Channel}
use Rattle.us_reports.proofs.BreachLemmas.{at_test, one_behind}
use Rattle.us_reports.specs.Breaches.{Any, At, IsFirstFailure}
use Rattle.us_reports.specs.Rows.{is_requested}
use Rattle.us_reports.specs.declared.place.Place.{Place}
use Rattle.us_map_rules.specs.Listed.{AreListed, is_called}
use Rattle.us_map_rules.specs.Naming.{calendar_line, calendar_place, is_of_there, number_in, number_told, occurrence, tells, tells_right}
use Rattle.us_map_rules.specs.Failures.{FailsAsLine, LineFails, comes_in, times_in, times_named}
use Rattle.us_map_rules.specs.Told.{AreToldOf, IsNamed, IsTold, IsToldMore, ToldEntry, nothing, open_line_of, open_told, times_told, told_number}
use Rattle.us_map_rules.specs.declared.naming.CalendarLine.{CalendarLine}
use Rattle.us_map_rules.specs.declared.windows.Occurrence.{Occurrence}
use Rattle.us_map_rules.proofs.CountLemmas.{before_no, if_some, times_single}
use Rattle.us_map_rules.proofs.ListedLemmas.{called_once}

-- Numbers.

-- an occurrence that is ideal before some time is one of those that are looked at till then,
pub number_within : (e : Entry) (n end : ℕ) → IsEntry e → ideal e n < end → n < end * e.grants
number_within e n end lawful begins =
    let intervals : n / e.grants * 1 ≤ n / e.grants * e.interval =
    mul-le (n / e.grants) 1 (n / e.grants) e.interval (omega arith) (omega (arith, lawful.jitter)) in
    let before : n / e.grants < end = omega (arith, begins, intervals) in
    (div-lt_iff_lt-mul (omega (arith, lawful.grants))).0 before

-- What closes in the run begins in it.
pub closed_there : (run : Run) (e : Entry) (n : ℕ) → comes e (speaks_in run e) n ≡ true → closes run e n ≡ true →
    is_there run e n ≡ true
closed_there run e n come closed =
    let last = ltb-true (window_end e n) (run.rounds * round_quarters run.tables) closed in
    rw (lt-ltb (ideal e n) (run.rounds * round_quarters run.tables) (omega (arith, last)), come) refl

-- Lines.

-- what a line names of an entry, and where it is
abbrev pub names_in : Entry → ℕ → Option CalendarLine → Bool
names_in e n None = false
names_in e n (Some line) = is_named e n line.entry line.at.third line.i line.k

abbrev pub is_at : Place → Option CalendarLine → Bool
is_at p None = false
is_at p (Some line) = (line.at.round == p.round) && ((line.at.channel == p.channel) && (line.at.third == p.third))

requested_word : (word : EntryWord) (kind : Kind) → is_requested word ≡ true → is_word kind word ≡ false
requested_word words.Unsolicited kind is = absurd (cc is)
requested_word words.Activity kind is = absurd (cc is)
requested_word words.RealTimePoll kind is = absurd (cc is)
requested_word words.NonRealTimePoll kind is = absurd (cc is)
requested_word words.Station kind is = absurd (cc is)
requested_word words.Requested kind is = no_request kind

-- a row as a line of a calendar
pub record IsLine (row : Row) (o : Option CalendarLine) : Type 0 where
  pub at : (p : Place) → is_calendar_line_at p row ≡ is_at p o
  pub names : (e : Entry) (n : ℕ) → names e n row ≡ names_in e n o
  pub number : (e : Entry) → IfSome o (λ line. number_of e row ≡ number_in e line)

pub line_is : (row : Row) → IsLine row (calendar_line row)
line_is (rows.Granted g) = by (is_requested g.entry) refl
  where
    line : CalendarLine
    line = record {
      at = record { round = g.round; channel = g.channel; third = g.id };
      entry = g.entry;
      i = g.i;
      k = g.k;
    }

    by : (b : Bool) → is_requested g.entry ≡ b → IsLine (rows.Granted g) (if b then None else Some line)
    by true is = record {
      at = λ p. rw is refl;
      names = λ e n. ap
          (λ b. b && ((g.id == e.id) && (nat_lt g.k e.grants && (g.i * e.grants + g.k == n))))
          (requested_word g.entry e.kind is);
      number = λ e. tt;
    }
    by false is = record { at = λ p. rw is refl; names = λ e n. refl; number = λ e. refl }
line_is (rows.Missed m) = record { at = λ p. refl; names = λ e n. refl; number = λ e. refl }
line_is (rows.Final f) = record { at = λ p. refl; names = λ e n. refl; number = λ e. tt }
line_is (rows.Activity a) = record { at = λ p. refl; names = λ e n. refl; number = λ e. tt }
line_is (rows.Counts c) = record { at = λ p. refl; names = λ e n. refl; number = λ e. tt }

-- The entry that it calls.

-- the number of an occurrence that is told
pub occurrence_is : (run : Run) (e : Entry) (told : Option ℕ) (o : Occurrence) → Some o ≡ option_map (occurrence run e) told →
    (Some o.number ≡ told) × (o ≡ occurrence run e o.number)
occurrence_is run e None o is = absurd (cc is)
occurrence_is run e (Some n) o is =
    let same : o ≡ occurrence run e n = cc is in
    let number : o.number ≡ n = ap (λ o. o.number) same in
    (ap Some number, same ∙ ap (occurrence run e) (sym number))

module _ (run : Run) (l : ChannelEntry) (row : Row) (line : CalendarLine) (n : ℕ)
    (is : calendar_line row ≡ Some line) (told : Some n ≡ number_told run l line) where
  told_parts : (tells run l line ≡ true) × (number_in l.entry line ≡ n)
  told_parts = if_some (tells run l line) (number_in l.entry line) n told

  -- It is right where it is so for the number.
  pub right_is : tells_right run row line l ≡ is_right_line run l n row
  right_is = ap₂ (λ b m. b && is_right_line run l m row) told_parts.0 told_parts.1

  -- The number is named, and the line is kept where the window stays open.
  pub told_is : (t u v : ToldEntry) (stays : Bool) → stays ≡ not (closes run l.entry n) → IsNamed (comes_in run l) n t u →
      v.next ≡ u.next → v.others ≡ u.others →
      v.open_lines ≡ u.open_lines ++ option_to_list (if stays then Some (record { number = n; at = line.at }) else None) →
      IsToldMore run l row t v
  told_is t u v stays stays_as more next others open_lines =
      let lines : open_line_of run l row ≡ (if stays then Some (record { number = n; at = line.at }) else None) =
      ap (option_and_then (open_told run l)) is
      ∙ ap₂ (λ b m. if b && not (closes run l.entry m) then Some (record { number = m; at = line.at }) else None)
      told_parts.0 told_parts.1
      ∙ sym (ap (λ b. if b then Some (record { number = n; at = line.at }) else None) stays_as) in
      record {
        named = λ m comes.
            ap₂ (λ k ns. times_named k ns m) next others ∙ more.named m comes
            ∙ ap (λ o. times_told t m + times_in (option_to_list o) m)
            (told ∙ sym (ap (option_and_then (number_told run l)) is));
        come = λ come. subst (All (λ m. comes_in run l m ≡ true)) (sym others) (more.come come);
        open_lines = open_lines ∙ ap₂ (λ os o. os ++ option_to_list o) more.open_lines (sym lines);
      }

-- What is told is there.

module _ (run : Run) (l : ChannelEntry) where
  abbrev IsThere : ℕ → Type 0
  IsThere n = is_there run l.entry n ≡ true

  pub there_comes : (n : ℕ) → IsThere n → comes_in run l n ≡ true
  there_comes n there =
      (and_parts (nat_lt (ideal l.entry n) (run.rounds * round_quarters run.tables)) (comes_in run l n) there).1

  pub tells_there : (line : CalendarLine) → tells run l line ≡ true → IsThere (number_in l.entry line)
  tells_there line told =
      let inner = (and_parts (is_called line.entry line.at.third l) (is_of_there run l.entry line) told).1 in
      (and_parts (nat_lt line.k l.entry.grants) (is_there run l.entry (number_in l.entry line)) inner).1

  -- One that is there is named by a line as often as it is told.
  module _ (n : ℕ) (there : IsThere n) where
    told_same : (a b c t : Bool) (m : ℕ) → (m ≡ n → t ≡ true) →
        times_in (option_to_list (if (a && b) && (c && t) then Some m else None)) n
        ≡ cond (a && (b && (c && (m == n)))) 1 0
    told_same true true true true m is = times_single m n
    told_same true true true false m is =
        sym (ap (λ b. cond {A = ℕ} b 1 0) (ne_eqb m n (λ same. false≢true (is same))))
    told_same true true false t m is = refl
    told_same true false c t m is = refl
    told_same false b c t m is = refl

    line_told : (o : Option CalendarLine) →
        times_in (option_to_list (option_and_then (number_told run l) o)) n ≡ cond (names_in l.entry n o) 1 0
    line_told None = refl
    line_told (Some line) =
        told_same (is_word l.entry.kind line.entry) (line.at.third == l.entry.id) (nat_lt line.k l.entry.grants)
        (is_there run l.entry (number_in l.entry line)) (number_in l.entry line) (λ same. subst IsThere (sym same) there)

    row_told : (row : Row) → times_in (option_to_list (told_number run l row)) n ≡ times l.entry n (row ∷ [])
    row_told row =
        let told = line_told (calendar_line row) ∙ ap (λ b. cond {A = ℕ} b 1 0) (sym ((line_is row).names l.entry n)) in
        let all = sum_by-cons (λ row. cond {A = ℕ} (names l.entry n row) 1 0) row [] in
        omega (arith, told, all)

-- All entries.

one_given : {X Y : Type 0} (g : X → Option Y) (x : X) (o : Option Y) → g x ≡ o → filter_map g (x ∷ []) ≡ option_to_list o
one_given g x None is = rw is refl
one_given g x (Some y) is = rw is refl

module _ (run : Run) (row : Row) where
  -- a line more
  told_more : (lines : List Row) (l : ChannelEntry) (t u : ToldEntry) → IsTold run lines l t → IsToldMore run l row t u →
      IsTold run (lines ++ row ∷ []) l u
  told_more lines l t u before more = record {
    named = λ n there.
        more.named n (there_comes run l n there)
        ∙ ap₂ (λ a b. a + b) (before.named n there) (row_told run l n there row)
        ∙ sym (sum_by-append (λ row. cond {A = ℕ} (names l.entry n row) 1 0) lines (row ∷ []));
    come = more.come before.come;
    open_lines = more.open_lines
        ∙ ap₂ (λ os more. os ++ more) before.open_lines
        (sym (one_given (open_line_of run l) row (open_line_of run l row) refl))
        ∙ sym (filter_map-append (open_line_of run l) lines (row ∷ []));
  }

  -- that tells nothing of an entry
  pub not_told : (l : ChannelEntry) (t : ToldEntry) → told_number run l row ≡ None → open_line_of run l row ≡ None →
      IsToldMore run l row t t
  not_told l t none open_none = record {
    named = λ n comes.
        let nothing : times_in (option_to_list (told_number run l row)) n ≡ 0 =
        ap (λ o. times_in (option_to_list o) n) none in
        omega (arith, nothing);
    come = λ come. come;
    open_lines = sym (ap (λ o. t.open_lines ++ option_to_list o) open_none ∙ append-nil t.open_lines);
  }

  -- as one that doesn't call it,
  abbrev pub CallsNot : Option CalendarLine → ChannelEntry → Type 0
  CallsNot o l = IfSome o (λ line. is_called line.entry line.at.third l ≡ false)

  silent : (o : Option CalendarLine) (l : ChannelEntry) → CallsNot o l →
      (option_and_then (number_told run l) o ≡ None) × (option_and_then (open_told run l) o ≡ None)
  silent None l out = (refl, refl)
  silent (Some line) l out =
      let n : ℕ = number_in l.entry line in (
        ap (λ b. if b && is_of_there run l.entry line then Some n else None) out,
        ap (λ b. if (b && is_of_there run l.entry line) && not (closes run l.entry n)
            then Some (record { number = n; at = line.at }) else None) out,
      )

  silent_more : (o : Option CalendarLine) (lines : List Row) (l : ChannelEntry) (t : ToldEntry) → calendar_line row ≡ o →
      CallsNot o l → IsTold run lines l t → IsTold run (lines ++ row ∷ []) l t
  silent_more o lines l t is out before =
      let none = silent o l out in
      told_more lines l t t before (not_told l t (ap (option_and_then (number_told run l)) is ∙ none.0)
      (ap (option_and_then (open_told run l)) is ∙ none.1))

  -- so nothing more where it calls none,
  pub none_more : (es : List ChannelEntry) (o : Option CalendarLine) → calendar_line row ≡ o → All (CallsNot o) es →
      (lines : List Row) (ts : List ToldEntry) → AreToldOf run lines es ts → AreToldOf run (lines ++ row ∷ []) es ts
  none_more es o is none lines ts before = λ place l t inside.
      silent_more o lines (get_or es place l) (get_or ts place t) is (none place l inside) (before place l t inside)

  module _ (es : List ChannelEntry) (line : CalendarLine) where
    wrong_for : (l : ChannelEntry) → is_called line.entry line.at.third l ≡ false → tells_right run row line l ≡ false
    wrong_for l out =
        ap (λ b. (b && is_of_there run l.entry line) && is_right_line run l (number_in l.entry line) row) out

    -- It fails where it is, unless it is right,
    pub line_first : calendar_line row ≡ Some line → (right : Bool) → list_any (tells_right run row line) es ≡ right →
        IsFirstFailure run.tables.channels (LineFails run es row) (if right then None else calendar_place row)
    line_first is right holds =
        subst (λ o. IsFirstFailure run.tables.channels (FailsAsLine run es row o)
        (if right then None else option_map (λ line. line.at) o)) (sym is)
        (subst (λ b. IsFirstFailure run.tables.channels (At line.at (list_any (tells_right run row line) es))
        (if b then None else Some line.at)) holds
        (at_test run.tables.channels line.at (list_any (tells_right run row line) es)))

    -- and it isn't where it calls none.
    pub none_right : All (λ l. is_called line.entry line.at.third l ≡ false) es →
        list_any (tells_right run row line) es ≡ false
    none_right none =
        list_any_none (tells_right run row line) es (λ k d inside. wrong_for (get_or es k d) (none k d inside))

    -- One that calls an entry tells of that one alone, which decides whether it is right.
    module _ (listed : AreListed run.tables es) (place : ℕ) (inside : place < length es)
        (called : (d : ChannelEntry) → is_called line.entry line.at.third (get_or es place d) ≡ true) where
      other : (k : ℕ) (d : ChannelEntry) → k < length es → (k ≡ place → ⊥) →
          is_called line.entry line.at.third (get_or es k d) ≡ false
      other k d within apart =
          false_from_ne_true (is_called line.entry line.at.third (get_or es k d)) (λ same.
          apart (called_once run.tables es line.entry line.at.third k place d listed within inside same (called d)))

      pub one_more : (lines : List Row) (ts : List ToldEntry) (u e : ToldEntry) (d : ChannelEntry) →
          calendar_line row ≡ Some line → length ts ≡ length es →
          IsToldMore run (get_or es place d) row (get_or ts place e) u → AreToldOf run lines es ts →
          AreToldOf run (lines ++ row ∷ []) es (set ts place u)
      one_more lines ts u e d is long more before = λ k l t within. elim (cases_eq k place) [
        | inl same ↦
            subst (λ k. IsTold run (lines ++ row ∷ []) (get_or es k l) (get_or (set ts place u) k t)) (sym same)
            (subst (IsTold run (lines ++ row ∷ []) (get_or es place l))
            (sym (get_or-set_same ts place u t (omega (arith, inside, long))))
            (subst (λ m. IsTold run (lines ++ row ∷ []) m u) (get_or_default es place d l inside)
            (told_more lines (get_or es place d) (get_or ts place e) u (before place d e inside) more)))
        | inr apart ↦
            subst (IsTold run (lines ++ row ∷ []) (get_or es k l))
            (sym (get_or-set_other ts place k u t (λ is. apart (omega (arith, is)))))
            (silent_more (Some line) lines (get_or es k l) (get_or ts k t) is (other k l within apart)
            (before k l t within))
      ]

      pub one_right : (d : ChannelEntry) →
          list_any (tells_right run row line) es ≡ tells_right run row line (get_or es place d)
      one_right d = elim (cases_Bool (tells_right run row line (get_or es place d))) [
        | inl right ↦ list_any_at (tells_right run row line) es place d inside right ∙ sym right
        | inr wrong ↦
            list_any_none (tells_right run row line) es (λ k e within. elim (cases_eq k place) [
              | inl same ↦
                  ap (tells_right run row line) (ap (λ k. get_or es k e) same ∙ get_or_default es place e d inside) ∙ wrong
              | inr apart ↦ wrong_for (get_or es k e) (other k e within apart)
            ]) ∙ sym wrong
      ]

-- One more line that doesn't fail.
pub none_behind : (channels : List Channel) (Fails : Row → Place → Type 0) (lines : List Row) (row : Row)
    (first : Option Place) → IsFirstFailure channels (Any Fails lines) first → IsFirstFailure channels (Fails row) None →
    IsFirstFailure channels (Any Fails (lines ++ row ∷ [])) first
none_behind channels Fails lines row None before one = one_behind channels Fails lines row None None before one
none_behind channels Fails lines row (Some p) before one = one_behind channels Fails lines row (Some p) None before one

-- No line tells anything.
pub nothing_told : (run : Run) (l : ChannelEntry) → IsTold run [] l nothing
nothing_told run l = record {
  named = λ n there. omega (arith, before_no 0 n (omega arith));
  come = λ k d inside. absurd (omega (arith, inside));
  open_lines = refl;
}
