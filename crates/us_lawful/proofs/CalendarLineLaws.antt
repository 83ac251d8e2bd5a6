-- Each occurrence is granted in its window, or missed in the round in which that closes, and told so by one line.
use Rattle.std.proofs.Common.{◌≡◌, ℕ, zero, suc, ◌+◌, ◌*◌, ◌/◌, ◌<◌, ◌==◌, nat_le, nat_lt, ◌&&◌, ◌||◌, Bool, true, false, List, [], ◌∷◌, ◌++◌, length, map, flat_map, filter, slice_get, option_map, Some, Contains, refl, sym, ap, subst, ◌∙◌, arith, inl, inr, eq-eqb, le-leb}
use Rattle.std.specs.Prelude.{not}
use Rattle.std.specs.List.{AllByRecursion, list_all, list_any, range_with_len}
use Rattle.std.proofs.lemmas.Bool.{and_from, and_parts, cases_Bool, or_cases, or_left, or_right}
use Rattle.std.proofs.lemmas.Option.{slice_get-map, slice_get-get_or}
use Rattle.us_flows.specs.declared.channels.Channel.{Channel}
use Rattle.us_flows.specs.Tables.{Tables, rounds_fit}
use Rattle.us_flows.specs.Lawful.{AreTables, IsChannel}
use Rattle.us_holes.specs.Boards.{Board}
use Rattle.us_requests.specs.declared.asks.Counts.{Counts}
use Rattle.us_calendar.specs.declared.settled.Settled.{Settled}
use Rattle.us_calendar.specs.declared.settled.Settled.TheVariants as settled
use Rattle.us_calendar.specs.Entries.{Entry, rank_of, entries, owner_of, slots_of}
use Rattle.us_calendar.specs.Occurrences.{ideal, window_end, comes}
use Rattle.us_calendar.specs.Calendars.{pace_of}
use Rattle.us_calendar.specs.Runs as runs
use Rattle.us_calendar.specs.Runs.{is_name, grants, misses, board_at_turn, IsOccurrence, IsRight}
use Rattle.us_channel.specs.Channels.{Built}
use Rattle.us_channel.specs.Placements.{PlacedClaim}
use Rattle.us_output.specs.declared.rows.Row.{Row}
use Rattle.us_round.specs.Rounds.{State, builds_of}
use Rattle.us_output.specs.Outputs.{settled_row, grant_row}
use Rattle.us_round.specs.ScheduleLaws.{AreCuts}
use Rattle.us_output.proofs.PartLemmas.{all_append, all_contained, all_flat, all_found, all_mapped}
use Rattle.us_reports.specs.declared.place.Place.{Place}
use Rattle.us_lawful.specs.Runs.{Run, Judged}
use Rattle.us_lawful.specs.Output.{output_of, judged_of, run_of}
use Rattle.us_lawful.specs.CalendarLines.{ChannelEntry, channel_entries, round_quarters, closes, speaks_in, is_there, closing_in, names, times, is_right_line, tells_one_of, is_calendar_line_at, told_lines_hold, is_entry_at, closings_hold, calendar_lines_hold}
use Rattle.us_lawful.proofs.TestLemmas.{all_pass, any_before, any_behind, any_first, any_later}
use Rattle.us_lawful.proofs.SameLemmas.{same_all}
use Rattle.us_lawful.proofs.RoundLemmas.{rounds_of, IsRoundOf, rounds_are, round_at, rows_in, round_rows, last_rows, last_all}
use Rattle.us_lawful.proofs.NameLemmas.{row_names, number_told}
use Rattle.us_lawful.proofs.WindowLemmas.{rounds_for, before_the_end, closing_in_round, closed_once, open_once, settled_before, settled_come}
use Rattle.us_lawful.proofs.CalendarLineLemmas.{IsListed, IsBuiltAt, AreBuilt, all_by_places, channel_lawful, some_grants, listed_once, occurrences_built}
use Rattle.us_lawful.proofs.TimesLemmas.{rounds_built, all_lines, lines_counted}

-- All that is listed.

abbrev listed_on : Channel → Entry → ChannelEntry
listed_on c e = record { channel = c; entry = e }

-- a test of lists passes where it passes at a place,
any_at : {X : Type 0} (p : X → Bool) (xs : List X) (place : ℕ) (x : X) → slice_get xs place ≡ Some x → p x ≡ true →
    list_any p xs ≡ true
any_at p [] place x at passes = absurd (cc at)
any_at p (y ∷ xs) zero x at passes =
    let same : y ≡ x = cc in
    any_first p y xs (ap p same ∙ passes)
any_at p (y ∷ xs) (suc place) x at passes = any_later p y xs (any_at p xs place x at passes)

-- of lists behind one another too,
any_flat : {X Y : Type 0} (p : Y → Bool) (f : X → List Y) (xs : List X) (place : ℕ) (x : X) →
    slice_get xs place ≡ Some x → list_any p (f x) ≡ true → list_any p (flat_map f xs) ≡ true
any_flat p f [] place x at passes = absurd (cc at)
any_flat p f (y ∷ xs) zero x at passes =
    let same : y ≡ x = cc in
    any_before p (f y) (flat_map f xs) (ap (λ z. list_any p (f z)) same ∙ passes)
any_flat p f (y ∷ xs) (suc place) x at passes = any_behind p (f y) (flat_map f xs) (any_flat p f xs place x at passes)

-- so at an entry of all entries
listed_any : (t : Tables) (p : ChannelEntry → Bool) (place : ℕ) (c : Channel) (e : Entry) → IsListed t place c e →
    p (listed_on c e) ≡ true → list_any p (channel_entries t) ≡ true
listed_any t p place c e is passes =
    let at : slice_get (entries t c) is.among.0 ≡ Some e =
    slice_get-get_or (entries t c) is.among.0 e is.among.1 ∙ ap Some is.among.2 in
    any_flat p (λ c. map (listed_on c) (entries t c)) t.channels place c is.at
    (any_at p (map (listed_on c) (entries t c)) is.among.0 (listed_on c e)
    (slice_get-map (listed_on c) (entries t c) is.among.0 ∙ ap (option_map (listed_on c)) at) passes)

-- what holds of each entry of each channel holds of all
listed_all : (t : Tables) (P : ChannelEntry → Type 0) →
    ((place : ℕ) (c : Channel) (e : Entry) → IsListed t place c e → P (listed_on c e)) →
    AllByRecursion P (channel_entries t)
listed_all t P each =
    all_flat P (λ c. map (listed_on c) (entries t c)) t.channels
    (all_by_places (λ c. AllByRecursion P (map (listed_on c) (entries t c))) t.channels
    (λ place c at. all_mapped P (listed_on c) (entries t c)
    (all_contained (λ e. P (listed_on c e)) (entries t c)
    (λ e among. each place c e (record { at = at; among = among })))))

-- what passes a filter passes its test
filter_passes : {X : Type 0} (p : X → Bool) (Q : X → Type 0) (xs : List X) → ((x : X) → p x ≡ true → Q x) →
    AllByRecursion Q (filter p xs)
filter_passes p Q [] each = tt
filter_passes p Q (x ∷ xs) each = elim (cases_Bool (p x)) [
  | inl is ↦ rw is (each x is, filter_passes p Q xs each)
  | inr out ↦ rw out (filter_passes p Q xs each)
]

-- the numbers that close in a round are there, and close in the run
closing_all : (run : Run) (round : ℕ) (e : Entry) (Q : ℕ → Type 0) →
    ((n : ℕ) → is_there run e n ≡ true → closes run e n ≡ true → Q n) → AllByRecursion Q (closing_in run round e)
unfolding closing_in
closing_all run round e Q each =
    let now : ℕ → Bool = λ n. window_end e n / round_quarters run.tables == round in
    filter_passes (λ n. is_there run e n && (closes run e n && now n)) Q
    (range_with_len 0 (run.rounds * round_quarters run.tables * e.grants))
    (λ n passes.
    let parts = and_parts (is_there run e n) (closes run e n && now n) passes in
    each n parts.0 (and_parts (closes run e n) (now n) parts.1).0)

-- A run whose lines name an occurrence as often as the calendar of its channel settled it.

abbrev pub AreCounted : Tables → List (List ℕ) → List Row → Type 0
AreCounted t cuts lines = (place : ℕ) (c : Channel) (e : Entry) (n : ℕ) → IsListed t place c e →
    times e n lines ≡ runs.times (grants e n) (rounds_for t c cuts) + runs.times (misses e n) (rounds_for t c cuts)

-- a line is none that a place is about, or marks an occurrence
abbrev pub LineHolds : Run → List Row → Place → Row → Type 0
LineHolds run lines p row = (not (is_calendar_line_at p row) || list_any (tells_one_of run lines row) (channel_entries run.tables)) ≡ true

module _ (t : Tables) (cuts : List (List ℕ)) (counts : Counts) (lines : List Row) (lawful : AreTables t)
    (counted : AreCounted t cuts lines) where
  abbrev run : Run
  run = run_of t cuts counts

  -- what is there and closes is named once,
  closed_named : (place : ℕ) (c : Channel) (e : Entry) (n : ℕ) → IsListed t place c e → is_there run e n ≡ true →
      closes run e n ≡ true → times e n lines ≡ 1
  closed_named place c e n is there closed =
      let parts = and_parts (nat_lt (ideal e n) (length cuts * round_quarters t)) (comes e (speaks_in run e) n) there in
      counted place c e n is
      ∙ closed_once t c cuts (speaks_in run e) e n (channel_lawful t place c lawful is.at)
      (listed_once t cuts counts place c e n lawful is) parts.1 closed

  -- and what doesn't at most once
  named_once : (place : ℕ) (c : Channel) (e : Entry) (n : ℕ) → IsListed t place c e →
      (closes run e n || nat_le (times e n lines) 1) ≡ true
  named_once place c e n is = elim (cases_Bool (closes run e n)) [
    | inl closed ↦ or_left (closes run e n) (nat_le (times e n lines) 1) closed
    | inr opens ↦
        let few = open_once t c cuts (speaks_in run e) e n (channel_lawful t place c lawful is.at)
        (listed_once t cuts counts place c e n lawful is) opens in
        or_right (closes run e n) (nat_le (times e n lines) 1)
        (le-leb (times e n lines) 1 (omega (arith, counted place c e n is, few)))
  ]

  -- So closings hold everywhere.
  pub all_closings_hold : (judged : Judged) (p : Place) → judged.lines ≡ lines → closings_hold run judged p ≡ true
  all_closings_hold judged p same =
      let each : (lines : List Row) → ChannelEntry → Bool = λ lines l. not (is_entry_at p l)
      || list_all (λ n. times l.entry n lines == 1) (closing_in run p.round l.entry) in
      subst (λ lines. list_all (each lines) (channel_entries t) ≡ true) (sym same)
      (all_pass (each lines) (channel_entries t) (listed_all t (λ l. each lines l ≡ true)
      (λ place c e is. or_right (not (is_entry_at p (listed_on c e)))
      (list_all (λ n. times e n lines == 1) (closing_in run p.round e))
      (all_pass (λ n. times e n lines == 1) (closing_in run p.round e)
      (closing_all run p.round e (λ n. (times e n lines == 1) ≡ true)
      (λ n there closed. eq-eqb (times e n lines) 1 (closed_named place c e n is there closed)))))))

  -- A line is right for the occurrence that it tells as settled.
  told_right : (c : Channel) (e : Entry) (n r : ℕ) (board : Board) (s : Settled) → IsChannel t c → r < length cuts →
      (grants e n s || misses e n s) ≡ true → IsRight (pace_of t c) r e (speaks_in run e (ideal e n)) n board s →
      is_right_line run (listed_on c e) n (settled_row r c s) ≡ true
  told_right c e n r board (settled.Granted kind id i k start slots owner) is before named right =
      let name : is_name e n (rank_of kind) id i k ≡ true =
      elim (or_cases (is_name e n (rank_of kind) id i k) false named) [ inl own ↦ own | inr never ↦ absurd (cc never) ] in
      let facts = right name in
      let active : Bool = speaks_in run e (ideal e n) in
      rw (
        eq-eqb c.id c.id refl,
        facts.1,
        eq-eqb owner.sid (owner_of e active).sid (ap (λ o. o.sid) facts.4),
        eq-eqb owner.iuc (owner_of e active).iuc (ap (λ o. o.iuc) facts.4),
        eq-eqb slots (slots_of e active) facts.3,
      ) refl
  told_right c e n r board (settled.Missed kind id i k) is before named right =
      let facts = right named in
      let closing = closing_in_round t c e n r (length cuts) is before facts.0 facts.1 in
      rw (
        eq-eqb c.id c.id refl,
        closing.0,
        eq-eqb r (window_end e n / round_quarters t) (sym closing.1),
      ) refl

  -- so that it marks one of an entry
  told_marks : (place : ℕ) (c : Channel) (e : Entry) (n r : ℕ) (board : Board) (s : Settled) →
      IsListed t place c e → r < length cuts → (grants e n s || misses e n s) ≡ true → comes e (speaks_in run e) n ≡ true →
      IsRight (pace_of t c) r e (speaks_in run e (ideal e n)) n board s →
      list_any (tells_one_of run lines (settled_row r c s)) (channel_entries t) ≡ true
  told_marks place c e n r board s is before named come right =
      let l : ChannelEntry = listed_on c e in
      let row : Row = settled_row r c s in
      let begins = before_the_end t c e n r (length cuts) (channel_lawful t place c lawful is.at) before
      (settled_before (pace_of t c) r e (speaks_in run e (ideal e n)) n board s named right) in
      let there : is_there run e n ≡ true =
      and_from (nat_lt (ideal e n) (length cuts * round_quarters t)) (comes e (speaks_in run e) n) begins come in
      let once : ℕ → Bool = λ m. closes run e m || nat_le (times e m lines) 1 in
      listed_any t (tells_one_of run lines row) place c e is
      (subst (λ m. (names e m row && (is_there run e m && (is_right_line run l m row && once m))) ≡ true)
      (sym (number_told e n r c s named))
      (and_from (names e n row) (is_there run e n && (is_right_line run l n row && once n))
      (row_names e n r c s (some_grants t place c e lawful is) ∙ named)
      (and_from (is_there run e n) (is_right_line run l n row && once n) there
      (and_from (is_right_line run l n row) (once n)
      (told_right c e n r board s (channel_lawful t place c lawful is.at) before named right)
      (named_once place c e n is)))))

  -- what the calendar of the channel settled in a round is told so: it comes, and is right
  abbrev AreRight : Channel → ℕ → runs.Round → Entry → ℕ → List Settled → Type 0
  AreRight c r round e n all =
      AllByRecursion (λ s. (grants e n s || misses e n s) ≡ true → comes e (speaks_in run e) n ≡ true) all
      × AllByRecursion (IsRight (pace_of t c) r e (speaks_in run e (ideal e n)) n (board_at_turn e n round)) all

  -- So hold the lines of a channel's round.
  -- those of what is settled,
  settled_hold : (p : Place) (r place : ℕ) (c : Channel) (round : runs.Round) (all : List Settled) →
      slice_get t.channels place ≡ Some c → r < length cuts → AllByRecursion (IsOccurrence (entries t c)) all →
      ((e : Entry) (n : ℕ) → Contains (entries t c) e → AreRight c r round e n all) →
      AllByRecursion (LineHolds run lines p) (map (settled_row r c) all)
  settled_hold p r place c round [] at before of right = tt
  settled_hold p r place c round (s ∷ all) at before of right =
      let e : Entry = of.0.entry in
      let n : ℕ = of.0.number in
      let own = right e n of.0.among in (
        or_right (not (is_calendar_line_at p (settled_row r c s)))
            (list_any (tells_one_of run lines (settled_row r c s)) (channel_entries t))
            (told_marks place c e n r (board_at_turn e n round) s (record { at = at; among = of.0.among }) before of.0.named
            (own.0.0 of.0.named) own.1.0),
        settled_hold p r place c round all at before of.1
            (λ e n among. let more = right e n among in (more.0.1, more.1.1)),
      )

  -- those of requests,
  requests_hold : (p : Place) (r : ℕ) (c : Channel) (all : List PlacedClaim) →
      AllByRecursion (LineHolds run lines p) (map (grant_row r c) all)
  requests_hold p r c [] = tt
  requests_hold p r c (g ∷ all) = (refl, requests_hold p r c all)

  -- and all
  pub build_holds : (p : Place) (r place : ℕ) (b : Built) → r < length cuts → IsBuiltAt t cuts r place b →
      AllByRecursion (LineHolds run lines p) (rows_in r b)
  build_holds p r place b before is =
      let c : Channel = b.channel in
      let right : (e : Entry) (n : ℕ) → Contains (entries t c) e → AreRight c r is.round e n b.settled =
      λ e n among.
      let once = listed_once t cuts counts place c e n lawful (record { at = is.channel; among = among }) in
      subst (AreRight c r is.round e n) is.settled (
        settled_come (pace_of t c) (speaks_in run e) (rounds_for t c cuts) e n r is.round once is.at,
        once.right r is.round is.at,
      ) in
      all_append (LineHolds run lines p) (map (settled_row r c) b.settled) (map (grant_row r c) b.grants)
      (settled_hold p r place c is.round b.settled is.channel before (occurrences_built t cuts r place b is) right)
      (requests_hold p r c b.grants)

-- The lines of a schedule.

-- those of each round hold
rounds_hold : (t : Tables) (cuts : List (List ℕ)) (counts : Counts) (p : Place) (r : ℕ) (s : State) → AreTables t →
    AreCuts t cuts → slice_get (rounds_of t cuts) r ≡ Some s →
    AllByRecursion (LineHolds (run_of t cuts counts) (judged_of (output_of t cuts counts)).lines p) (round_rows s)
rounds_hold t cuts counts p r s lawful long at =
    let run : Run = run_of t cuts counts in
    let lines : List Row = (judged_of (output_of t cuts counts)).lines in
    let is : IsRoundOf t (length cuts) s =
    all_found (IsRoundOf t (length cuts)) (rounds_of t cuts) r s (rounds_are t cuts lawful long) at in
    let number : s.round ≡ r = round_at t cuts r s at in
    let before : r < length cuts = omega (arith, number, is.before) in
    let all : AreBuilt t cuts r (builds_of s) = rounds_built t cuts r s lawful long at in
    subst (λ n. AllByRecursion (LineHolds run lines p) (flat_map (rows_in n) (builds_of s))) (sym number)
    (all_flat (LineHolds run lines p) (rows_in r) (builds_of s)
    (all_by_places (λ b. AllByRecursion (LineHolds run lines p) (rows_in r b)) (builds_of s)
    (λ place b there. build_holds t cuts counts lines lawful
    (λ place c e n listed. lines_counted t cuts counts place c e n lawful long listed) p r place b before
    (all place b there))))

-- Every line of a calendar marks an occurrence of an entry, and every occurrence that closes is marked by one line.
pub calendar_lines_are_lawful : (t : Tables) (cuts : List (List ℕ)) (counts : Counts) → AreTables t → AreCuts t cuts →
    rounds_fit t (length cuts) ≡ true → (p : Place) →
    calendar_lines_hold (run_of t cuts counts) (judged_of (output_of t cuts counts)) p ≡ true
calendar_lines_are_lawful t cuts counts lawful long fit p =
    let run : Run = run_of t cuts counts in
    let judged : Judged = judged_of (output_of t cuts counts) in
    let holds : Row → Bool = λ row. not (is_calendar_line_at p row) || list_any (tells_one_of run judged.lines row) (channel_entries t) in
    let parts : List Row = flat_map round_rows (rounds_of t cuts) ++ last_rows t cuts counts in
    let each : AllByRecursion (LineHolds run judged.lines p) parts =
    all_append (LineHolds run judged.lines p) (flat_map round_rows (rounds_of t cuts)) (last_rows t cuts counts)
    (all_flat (LineHolds run judged.lines p) round_rows (rounds_of t cuts)
    (all_by_places (λ s. AllByRecursion (LineHolds run judged.lines p) (round_rows s)) (rounds_of t cuts)
    (λ r s at. rounds_hold t cuts counts p r s lawful long at)))
    (last_all (LineHolds run judged.lines p) t cuts counts (λ state. refl) (λ activity. refl) refl) in
    let lines : told_lines_hold run judged p ≡ true =
    same_all holds judged.lines parts (all_lines t cuts counts lawful long) ∙ all_pass holds parts each in
    and_from (told_lines_hold run judged p) (closings_hold run judged p) lines
    (all_closings_hold t cuts counts judged.lines lawful
    (λ place c e n listed. lines_counted t cuts counts place c e n lawful long listed) judged p refl)
