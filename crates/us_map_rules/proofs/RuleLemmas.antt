-- The rule of calendars' lines: it fails just where a line isn't right by itself, or occurrences of an entry fail.
use Rattle.std.proofs.Common.{◌≡◌, ℕ, suc, ◌*◌, ◌==◌, nat_le, nat_lt, ◌&&◌, ◌||◌, Bool, true, false, List, [], ◌∷◌, Option, Some, None, Contains, get_or, refl, ap, ap₂, sym, subst, ◌∙◌, inl, inr, ◌⊎◌, arith, ltb-true, eq-eqb, ne_eqb, eqb-true}
use Rattle.std.specs.Prelude.{◌↔◌, filter, if◌then◌else◌, not, option_and_then, filter_map}
use Rattle.std.specs.List.{list_all, list_any, range_with_len}
use Rattle.std.specs.Option.{option_to_list}
use Rattle.std.proofs.lemmas.Bool.{and_from, and_parts, cases_Bool, false≢true, false_from_ne_true}
use Rattle.std.proofs.lemmas.List.Elements.{Contains-get_or}
use Rattle.std.proofs.lemmas.List.Folds.{list_any_at, list_any_none}
use Rattle.std.proofs.lemmas.List.FromFn.{get_or-range_with_len, length-range_with_len}
use Rattle.us_flows.specs.declared.channels.Channel.{Channel}
use Rattle.us_flows.proofs.SidLemmas.{list_any-same}
use Rattle.us_calendar.specs.Entries.{IsEntry}
use Rattle.us_calendar.specs.Occurrences.{window_end}
use Rattle.us_output.specs.declared.rows.Row.{Row}
use Rattle.us_reports.specs.declared.place.Place.{Place}
use Rattle.us_lawful.specs.Runs.{Run, Judged}
use Rattle.us_lawful.specs.CalendarLines.{ChannelEntry, calendar_lines_hold, channel_entries, closes, closing_in, closing_round, closings_hold, is_calendar_line_at, is_entry_at, is_right_line, is_there, is_word, names, round_quarters, tells_one_of, times, told_lines_hold}
use Rattle.us_reports.specs.Order.{earlier}
use Rattle.us_reports.specs.Breaches.{Any, At, Either, IsFirstBreach, IsFirstFailure}
use Rattle.us_reports.proofs.AnyLemmas.{any_at, any_each, any_filter, any_filter_map, any_of_all}
use Rattle.us_reports.proofs.BreachLemmas.{and_of_either, at_there, either_of_and, holds_first, joined, same_places}
use Rattle.us_reports.proofs.OrderLemmas.{place-is}
use Rattle.us_map_rules.specs.declared.naming.CalendarLine.{CalendarLine}
use Rattle.us_map_rules.specs.declared.told.OpenLine.{OpenLine}
use Rattle.us_map_rules.specs.Listed.{AreListed, is_called}
use Rattle.us_map_rules.specs.Naming.{calendar_line, is_of_there, number_in, tells, tells_right}
use Rattle.us_map_rules.specs.Failures.{ClosingFails, FailsAsLine, LineFails, OpenFails}
use Rattle.us_map_rules.specs.Told.{IsTold, OccurrencesFail, ToldEntry, open_line_of, open_told, times_told}
use Rattle.us_map_rules.proofs.ListedLemmas.{entry_lawful, listed_among, one_listed, same_called}
use Rattle.us_map_rules.proofs.TakingLemmas.{IsLine, closed_there, is_at, line_is, number_within, tells_there, there_comes}

-- Items that fail.

-- what fails of a list fails of one of its items,
failing : {X : Type 0} (F : X → Place → Type 0) (xs : List X) (p : Place) → Any F xs p → (x : X) × Contains xs x × F x p
failing F [] p fails = absurd fails
failing F (x ∷ xs) p fails = elim fails [
  | inl here ↦ (x, (0, omega arith, refl), here)
  | inr there ↦
      let other = failing F xs p there in
      (other.0, (suc other.1.0, omega (arith, other.1.1), other.1.2), other.2)
]

-- and back
fails_in : {X : Type 0} (F : X → Place → Type 0) (xs : List X) (x : X) (p : Place) → Contains xs x → F x p → Any F xs p
fails_in F xs x p has fails = any_at F xs has.0 x p has.1 (subst (λ y. F y p) (sym has.2) fails)

-- a test that an item passes, or none does
passing : {X : Type 0} (t : X → Bool) (xs : List X) → (list_any t xs ≡ false) ⊎ ((x : X) × Contains xs x × (t x ≡ true))
passing t [] = inl refl
passing t (x ∷ xs) = elim (cases_Bool (t x)) [
  | inl is ↦ inr (x, (0, omega arith, refl), is)
  | inr out ↦ elim (passing t xs) [
    | inl none ↦ inl (ap₂ (λ a b. a || b) out none)
    | inr one ↦ inr (one.0, (suc one.1.0, omega (arith, one.1.1), one.1.2), one.2)
  ]
]

none_pass : {X : Type 0} (t : X → Bool) (xs : List X) → ((x : X) → Contains xs x → t x ≡ true → ⊥) → list_any t xs ≡ false
none_pass t xs none = list_any_none t xs (λ k d inside.
    false_from_ne_true (t (get_or xs k d)) (none (get_or xs k d) (Contains-get_or xs k d inside)))

passes_not : {X : Type 0} (t : X → Bool) (xs : List X) (x : X) → list_any t xs ≡ false → Contains xs x → t x ≡ false
passes_not t xs x none has = false_from_ne_true (t x) (λ is.
    false≢true (sym none ∙ list_any_at t xs has.0 x has.1 (ap t has.2 ∙ is)))

-- what is asked where a test passes fails there alone
asked : (a b : Bool) → ((not a || b) ≡ false) ↔ ((a ≡ true) × (b ≡ false))
asked true b = (λ fails. (refl, fails), λ fails. fails.1)
asked false b = (λ fails. absurd (false≢true (sym fails)), λ fails. absurd (false≢true fails.0))

either_false : (a b : Bool) → (a || b) ≡ false → (a ≡ false) × (b ≡ false)
either_false true b out = absurd (false≢true (sym out))
either_false false b out = (refl, out)

regrouped : (a b c there right alone : Bool) →
    ((a && (b && (c && true))) && (there && (right && alone))) ≡ ((((a && b) && (c && there)) && right) && alone)
regrouped true true true true right alone = refl
regrouped true true true false right alone = refl
regrouped true true false there right alone = refl
regrouped true false c there right alone = refl
regrouped false b c there right alone = refl

module _ (run : Run) (es : List ChannelEntry) (listed : AreListed run.tables es) (judged : Judged) (p : Place) where
  abbrev named : ChannelEntry → ℕ → ℕ
  named l n = times l.entry n judged.lines

  -- Lines.

  -- the window closes, or no other line names the occurrence
  abbrev is_alone : CalendarLine → ChannelEntry → Bool
  is_alone line l = closes run l.entry (number_in l.entry line) || nat_le (named l (number_in l.entry line)) 1

  -- what the rule asks of a line, for an entry and for all
  tells_as : (row : Row) (line : CalendarLine) → IsLine row (Some line) → (l : ChannelEntry) →
      tells_one_of run judged.lines row l ≡ (tells_right run row line l && is_alone line l)
  tells_as row line is l =
      let m : ℕ = number_in l.entry line in
      ap (λ n. names l.entry n row && (is_there run l.entry n && (is_right_line run l n row
      && (closes run l.entry n || nat_le (named l n) 1)))) (is.number l.entry)
      ∙ ap (λ b. b && (is_there run l.entry m && (is_right_line run l m row && is_alone line l)))
      (is.names l.entry m ∙ ap (λ b. is_word l.entry.kind line.entry && ((line.at.third == l.entry.id)
      && (nat_lt line.k l.entry.grants && b))) (eq-eqb m m refl))
      ∙ regrouped (is_word l.entry.kind line.entry) (line.at.third == l.entry.id) (nat_lt line.k l.entry.grants)
      (is_there run l.entry m) (is_right_line run l m row) (is_alone line l)

  told_as : (row : Row) (line : CalendarLine) → IsLine row (Some line) →
      list_any (tells_one_of run judged.lines row) (channel_entries run.tables)
      ≡ list_any (λ l. tells_right run row line l && is_alone line l) es
  told_as row line is =
      ap (list_any (tells_one_of run judged.lines row)) (sym listed.all)
      ∙ list_any-same (tells_one_of run judged.lines row) (λ l. tells_right run row line l && is_alone line l)
      (tells_as row line is) es

  -- an entry of which the line is one of several that name an open occurrence
  abbrev Doubled : Row → Option CalendarLine → Type 0
  Doubled row o =
      (l : ChannelEntry) × Contains es l
      × Any (OpenFails (named l)) (option_to_list (option_and_then (open_told run l) o)) p

  abbrev holds : Row → Bool
  holds row =
      not (is_calendar_line_at p row) || list_any (tells_one_of run judged.lines row) (channel_entries run.tables)

  -- it is asked at its place
  at_line : (row : Row) (line : CalendarLine) → IsLine row (Some line) →
      (holds row ≡ false) ↔ At line.at (list_any (λ l. tells_right run row line l && is_alone line l) es) p
  at_line row line is =
      let told : Bool = list_any (λ l. tells_right run row line l && is_alone line l) es in
      let same : holds row ≡ (not (is_at p (Some line)) || told) =
      ap₂ (λ a b. not a || b) (is.at p) (told_as row line is) in
      let there = at_there line.at p told in
      (λ fails. there.0 (sym same ∙ fails), λ fails. same ∙ there.1 fails)

  right_tells : (row : Row) (line : CalendarLine) (l : ChannelEntry) → tells_right run row line l ≡ true →
      tells run l line ≡ true
  right_tells row line l right =
      (and_parts (tells run l line) (is_right_line run l (number_in l.entry line) row) right).0

  calls : (line : CalendarLine) (l : ChannelEntry) → tells run l line ≡ true → is_called line.entry line.at.third l ≡ true
  calls line l told = (and_parts (is_called line.entry line.at.third l) (is_of_there run l.entry line) told).0

  row_to : (row : Row) (o : Option CalendarLine) → IsLine row o → holds row ≡ false →
      FailsAsLine run es row o p ⊎ Doubled row o
  row_to row None is fails = absurd (false≢true (sym fails
      ∙ ap (λ b. not b || list_any (tells_one_of run judged.lines row) (channel_entries run.tables)) (is.at p)))
  row_to row (Some line) is fails =
      let here = (at_line row line is).0 fails in
      elim (passing (tells_right run row line) es) [
        | inl wrong ↦ inl (here.0, wrong)
        | inr right ↦
            let l : ChannelEntry = right.0 in
            let n : ℕ = number_in l.entry line in
            let both = passes_not (λ l. tells_right run row line l && is_alone line l) es l here.1 right.1 in
            let out = either_false (closes run l.entry n) (nat_le (named l n) 1)
            (sym (ap (λ b. b && is_alone line l) right.2) ∙ both) in
            let kept : open_told run l line ≡ Some (record { number = n; at = line.at }) =
            ap₂ (λ a b. if a && not b then Some (record { number = n; at = line.at }) else None) (right_tells row line l right.2) out.0 in
            inr (l, right.1, subst (λ o. Any (OpenFails (named l)) (option_to_list o) p) (sym kept) (inl (here.0, out.1)))
      ]

  -- what is kept of such a line
  doubled_parts : (b : Bool) (c : ℕ → ℕ) (one : OpenLine) →
      Any (OpenFails c) (option_to_list (if b then Some one else None)) p →
      (b ≡ true) × (p ≡ one.at) × (nat_le (c one.number) 1 ≡ false)
  doubled_parts true c one fails = elim fails [ inl here ↦ (refl, here.0, here.1) | inr none ↦ absurd none ]
  doubled_parts false c one fails = absurd fails

  row_from : (row : Row) (o : Option CalendarLine) → IsLine row o → FailsAsLine run es row o p ⊎ Doubled row o →
      holds row ≡ false
  row_from row None is fails = elim fails [ inl none ↦ absurd none | inr none ↦ absurd none.2 ]
  row_from row (Some line) is fails = elim fails [
    | inl wrong ↦
        let none = none_pass (λ l. tells_right run row line l && is_alone line l) es (λ l has both.
        false≢true (sym (passes_not (tells_right run row line) es l wrong.1 has)
        ∙ (and_parts (tells_right run row line l) (is_alone line l) both).0)) in
        (at_line row line is).1 (wrong.0, none)
    | inr one ↦
        let l : ChannelEntry = one.0 in
        let n : ℕ = number_in l.entry line in
        let parts = doubled_parts (tells run l line && not (closes run l.entry n)) (named l)
        (record { number = n; at = line.at }) one.2 in
        let open_one = and_parts (tells run l line) (not (closes run l.entry n)) parts.0 in
        let alone : is_alone line l ≡ false =
        ap₂ (λ a b. a || b) (not_true (closes run l.entry n) open_one.1) parts.2 in
        let none = none_pass (λ l. tells_right run row line l && is_alone line l) es (λ m has both.
        let other = and_parts (tells_right run row line m) (is_alone line m) both in
        let same = same_called line.entry line.at.third m l (calls line m (right_tells row line m other.0))
        (calls line l open_one.0) in
        false≢true (sym alone
        ∙ sym (ap (is_alone line) (one_listed run.tables es listed m l has one.1 same.0 same.1)) ∙ other.1)) in
        (at_line row line is).1 (parts.1, none)
  ]
    where
      not_true : (b : Bool) → not b ≡ true → b ≡ false
      not_true true is = absurd (false≢true is)
      not_true false is = refl

  -- Closings.

  abbrev once : ChannelEntry → ℕ → Bool
  once l n = named l n == 1

  -- an occurrence is there, and closes in the round of the place
  abbrev closes_there : ChannelEntry → ℕ → Bool
  closes_there l n =
      is_there run l.entry n && (closes run l.entry n && (closing_round run.tables l.entry n == p.round))

  abbrev looked_at : ChannelEntry → List ℕ
  looked_at l = range_with_len 0 (run.rounds * round_quarters run.tables * l.entry.grants)

  abbrev closings : ChannelEntry → Bool
  closings l = not (is_entry_at p l) || list_all (once l) (closing_in run p.round l.entry)

  closing_to : (l : ChannelEntry) → closings l ≡ false → ClosingFails run l (named l) p
  unfolding closing_in
  closing_to l fails =
      let parts = (asked (is_entry_at p l) (list_all (once l) (closing_in run p.round l.entry))).0 fails in
      let here = and_parts (l.channel.id == p.channel) (l.entry.id == p.third) parts.0 in
      let one = failing (λ n q. (closes_there l n ≡ true) × (once l n ≡ false)) (looked_at l) p
      ((any_filter (λ n q. once l n ≡ false) (closes_there l) (looked_at l) p).0
      ((any_of_all (λ n q. once l n) (filter (closes_there l) (looked_at l)) p).0 parts.1)) in
      let n : ℕ = one.0 in
      let there = and_parts (is_there run l.entry n)
      (closes run l.entry n && (closing_round run.tables l.entry n == p.round)) one.2.0 in
      let closing = and_parts (closes run l.entry n) (closing_round run.tables l.entry n == p.round) there.1 in
      record {
        number = n;
        come = there_comes run l n there.0;
        closes = closing.0;
        place = place-is p
            (record { round = closing_round run.tables l.entry n; channel = l.channel.id; third = l.entry.id })
            (sym (eqb-true (closing_round run.tables l.entry n) p.round closing.1))
            (sym (eqb-true l.channel.id p.channel here.0)) (sym (eqb-true l.entry.id p.third here.1));
        wrong = λ single. false≢true (sym one.2.1 ∙ eq-eqb (named l n) 1 single);
      }

  closing_from : (l : ChannelEntry) → IsEntry l.entry → ClosingFails run l (named l) p → closings l ≡ false
  unfolding closing_in
  closing_from l lawful fails =
      let n : ℕ = fails.number in
      let end : ℕ = run.rounds * round_quarters run.tables in
      let within = number_within l.entry n end lawful (omega (arith, ltb-true (window_end l.entry n) end fails.closes)) in
      let here : get_or (looked_at l) n 0 ≡ n = omega (arith, get_or-range_with_len 0 (end * l.entry.grants) n 0 within) in
      let is = closed_there run l.entry n fails.come fails.closes in
      let there = and_from (is_there run l.entry n)
      (closes run l.entry n && (closing_round run.tables l.entry n == p.round)) is
      (and_from (closes run l.entry n) (closing_round run.tables l.entry n == p.round) fails.closes
      (eq-eqb (closing_round run.tables l.entry n) p.round (ap (λ q. q.round) (sym fails.place)))) in
      let at = and_from (l.channel.id == p.channel) (l.entry.id == p.third)
      (eq-eqb l.channel.id p.channel (ap (λ q. q.channel) (sym fails.place)))
      (eq-eqb l.entry.id p.third (ap (λ q. q.third) (sym fails.place))) in
      (asked (is_entry_at p l) (list_all (once l) (closing_in run p.round l.entry))).1 (
        at,
        (any_of_all (λ n q. once l n) (filter (closes_there l) (looked_at l)) p).1
            ((any_filter (λ n q. once l n ≡ false) (closes_there l) (looked_at l) p).1
            (any_at (λ n q. (closes_there l n ≡ true) × (once l n ≡ false)) (looked_at l) n 0 p
            (omega (arith, within, length-range_with_len 0 (end * l.entry.grants)))
            (subst (λ m. (closes_there l m ≡ true) × (once l m ≡ false)) (sym here)
            (there, ne_eqb (named l n) 1 fails.wrong)))),
      )

  -- The rule.

  abbrev kept : ChannelEntry → Row → Place → Type 0
  kept l row = Any (OpenFails (named l)) (option_to_list (open_line_of run l row))

  rule_to : calendar_lines_hold run judged p ≡ false →
      Either (Any (LineFails run es) judged.lines) (Any (OccurrencesFail run judged.lines) es) p
  rule_to fails = elim (and_of_either (told_lines_hold run judged p) (closings_hold run judged p) fails) [
    | inl lines ↦
        let one = failing (λ row q. holds row ≡ false) judged.lines p
        ((any_of_all (λ row q. holds row) judged.lines p).0 lines) in
        let row : Row = one.0 in
        elim (row_to row (calendar_line row) (line_is row) one.2) [
          | inl wrong ↦ inl (fails_in (LineFails run es) judged.lines row p one.1 wrong)
          | inr doubled ↦
              let l : ChannelEntry = doubled.0 in
              inr (fails_in (OccurrencesFail run judged.lines) es l p doubled.1
              (inr ((any_filter_map (OpenFails (named l)) (open_line_of run l) judged.lines p).1
              (fails_in (kept l) judged.lines row p one.1 doubled.2))))
        ]
    | inr closing ↦
        let one = failing (λ l q. closings l ≡ false) (channel_entries run.tables) p
        ((any_of_all (λ l q. closings l) (channel_entries run.tables) p).0 closing) in
        inr (fails_in (OccurrencesFail run judged.lines) es one.0 p
        (subst (λ xs. Contains xs one.0) (sym listed.all) one.1) (inl (closing_to one.0 one.2)))
  ]

  told_out : (row : Row) → Contains judged.lines row → LineFails run es row p ⊎ Doubled row (calendar_line row) →
      calendar_lines_hold run judged p ≡ false
  told_out row has fails =
      either_of_and (told_lines_hold run judged p) (closings_hold run judged p)
      (inl ((any_of_all (λ row q. holds row) judged.lines p).1
      (fails_in (λ row q. holds row ≡ false) judged.lines row p has (row_from row (calendar_line row) (line_is row) fails))))

  rule_from : Either (Any (LineFails run es) judged.lines) (Any (OccurrencesFail run judged.lines) es) p →
      calendar_lines_hold run judged p ≡ false
  rule_from fails = elim fails [
    | inl wrong ↦
        let one = failing (LineFails run es) judged.lines p wrong in
        told_out one.0 one.1 (inl one.2)
    | inr occurrences ↦
        let one = failing (OccurrencesFail run judged.lines) es p occurrences in
        let l : ChannelEntry = one.0 in
        elim one.2 [
          | inl closing ↦
              either_of_and (told_lines_hold run judged p) (closings_hold run judged p)
              (inr ((any_of_all (λ l q. closings l) (channel_entries run.tables) p).1
              (fails_in (λ l q. closings l ≡ false) (channel_entries run.tables) l p
              (listed_among run.tables es listed l one.1)
              (closing_from l (entry_lawful run.tables es listed l one.1) closing))))
          | inr doubled ↦
              let row = failing (kept l) judged.lines p
              ((any_filter_map (OpenFails (named l)) (open_line_of run l) judged.lines p).0 doubled) in
              told_out row.0 row.1 (inr (l, one.1, row.2))
        ]
  ]

-- What is told of an entry, where all lines are.

module _ (run : Run) (l : ChannelEntry) (f g : ℕ → ℕ) (same : (n : ℕ) → is_there run l.entry n ≡ true → f n ≡ g n)
    (p : Place) where
  closing_same : ClosingFails run l f p → ClosingFails run l g p
  closing_same fails = record {
    number = fails.number;
    come = fails.come;
    closes = fails.closes;
    place = fails.place;
    wrong = λ once.
        fails.wrong (same fails.number (closed_there run l.entry fails.number fails.come fails.closes) ∙ once);
  }

  open_same : (row : Row) (o : Option CalendarLine) →
      Any (OpenFails f) (option_to_list (option_and_then (open_told run l) o)) p →
      Any (OpenFails g) (option_to_list (option_and_then (open_told run l) o)) p
  open_same row None fails = fails
  open_same row (Some line) fails = by (tells run l line && not (closes run l.entry n)) refl fails
    where
      n : ℕ
      n = number_in l.entry line

      one : OpenLine
      one = record { number = n; at = line.at }

      by : (b : Bool) → (tells run l line && not (closes run l.entry n)) ≡ b →
          Any (OpenFails f) (option_to_list (if b then Some one else None)) p →
          Any (OpenFails g) (option_to_list (if b then Some one else None)) p
      by true is fails =
          let there = tells_there run l line (and_parts (tells run l line) (not (closes run l.entry n)) is).0 in
          elim fails [
            | inl here ↦ inl (here.0, ap (λ m. nat_le m 1) (sym (same n there)) ∙ here.1)
            | inr none ↦ absurd none
          ]
      by false is fails = fails

  opens_same : (lines : List Row) → Any (OpenFails f) (filter_map (open_line_of run l) lines) p →
      Any (OpenFails g) (filter_map (open_line_of run l) lines) p
  opens_same lines fails =
      (any_filter_map (OpenFails g) (open_line_of run l) lines p).1
      (any_each (λ row. Any (OpenFails f) (option_to_list (open_line_of run l row)))
      (λ row. Any (OpenFails g) (option_to_list (open_line_of run l row))) lines p
      (λ row. open_same row (calendar_line row)) ((any_filter_map (OpenFails f) (open_line_of run l) lines p).0 fails))

-- its first breach is that of its closings and of its open lines
pub told_first : (run : Run) (lines : List Row) (l : ChannelEntry) (t : ToldEntry) (f : ℕ → ℕ) (channels : List Channel)
    (a b : Option Place) → ((n : ℕ) → f n ≡ times_told t n) → IsTold run lines l t →
    IsFirstFailure channels (ClosingFails run l f) a → IsFirstFailure channels (Any (OpenFails f) t.open_lines) b →
    IsFirstFailure channels (OccurrencesFail run lines l) (earlier channels a b)
told_first run lines l t f channels a b is told closing doubled =
    let g : ℕ → ℕ = λ n. times l.entry n lines in
    let there : (n : ℕ) → is_there run l.entry n ≡ true → f n ≡ g n = λ n there. is n ∙ told.named n there in
    let back : (n : ℕ) → is_there run l.entry n ≡ true → g n ≡ f n = λ n is. sym (there n is) in
    same_places channels (Either (ClosingFails run l f) (Any (OpenFails f) t.open_lines)) (OccurrencesFail run lines l)
    (earlier channels a b)
    (λ p fails. elim fails [
      | inl one ↦ inl (closing_same run l f g there p one)
      | inr one ↦ inr (opens_same run l f g there p lines (subst (λ os. Any (OpenFails f) os p) told.open_lines one))
    ])
    (λ p fails. elim fails [
      | inl one ↦ inl (closing_same run l g f back p one)
      | inr one ↦
          inr (subst (λ os. Any (OpenFails f) os p) (sym told.open_lines) (opens_same run l g f back p lines one))
    ])
    (joined channels (ClosingFails run l f) (Any (OpenFails f) t.open_lines) a b closing doubled)

-- So of the first wrong line and the first breach of entries the earlier one is the rule's.
pub rule_first : (run : Run) (es : List ChannelEntry) (judged : Judged) (channels : List Channel) (a b : Option Place) →
    AreListed run.tables es → IsFirstFailure channels (Any (LineFails run es) judged.lines) a →
    IsFirstFailure channels (Any (OccurrencesFail run judged.lines) es) b →
    IsFirstBreach channels (λ p. calendar_lines_hold run judged p ≡ true) (earlier channels a b)
rule_first run es judged channels a b listed lines entries =
    let A : Place → Type 0 = Any (LineFails run es) judged.lines in
    let B : Place → Type 0 = Any (OccurrencesFail run judged.lines) es in
    holds_first channels (calendar_lines_hold run judged) (earlier channels a b)
    (same_places channels (Either A B) (λ p. calendar_lines_hold run judged p ≡ false) (earlier channels a b)
    (rule_from run es listed judged) (rule_to run es listed judged) (joined channels A B a b lines entries))
