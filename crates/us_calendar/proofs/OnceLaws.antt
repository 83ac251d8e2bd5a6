-- What becomes of an occurrence over the rounds of a calendar.
use Rattle.std.proofs.Common.{◌≡◌, ℕ, zero, suc, ◌+◌, ◌*◌, ◌/◌, ◌%◌, ◌<◌, ◌≤◌, ◌⊎◌, ◌==◌, nat_lt, ◌&&◌, ◌||◌, Bool, true, false, List, [], ◌∷◌, ◌++◌, length, map, flat_map, filter, take, count_by, Option, Some, None, slice_get, if◌then◌else◌, append_assoc, refl, ap, sym, ◌∙◌, inl, inr, subst, add-one, le-ltb, lt-ltb, eq-eqb, ne_eqb, arith}
use Rattle.std.specs.List.{AllByRecursion, range_with_len}
use Rattle.std.proofs.lemmas.List.FromFn.{length-range_with_len}
use Rattle.std.proofs.lemmas.Bool.{cases_lt, cases_order, cases_Bool, ltb-true}
use Rattle.std.proofs.lemmas.List.Sums.{sum_by-cons, sum_by-append}
use Rattle.std.proofs.lemmas.List.{append-nil, length-append}
use Rattle.std.proofs.lemmas.List.Elements.{filter-append}
use Rattle.std.proofs.lemmas.Grind.{flat_map-append}
use Rattle.std.proofs.lemmas.Nat.{mul-le}
use Rattle.us_flows.proofs.TurnLemmas.{all-append}
use Rattle.us_holes.specs.Boards.{Board, assign_all}
use Rattle.us_holes.proofs.LawLemmas.{assign_all-append}
use Rattle.us_calendar.specs.Entries.{Entry, rank_of, goes_before}
use Rattle.us_calendar.specs.Occurrences.{Pace, ideal, end_of, comes, window_end}
use Rattle.us_calendar.specs.Activity.{hears_of, speaks_by}
use Rattle.us_calendar.specs.Settling.{Settlement, SettledEntry, EntryState, spot, heard, opening_state, speaks_in, waiting_at, settle_state, after_settling, told_as}
use Rattle.us_calendar.specs.Calendars.{Calendar, Ran, run_entries, after}
use Rattle.us_calendar.specs.Runs.{Round, rounds_on, after_rounds, grants, misses, is_earlier, has_turn_before, assignments_of, times, end_after, board_at_turn, IsRight, IsSettledOnce}
use Rattle.us_calendar.specs.declared.settled.Settled.{Settled}
use Rattle.us_calendar.specs.declared.settled.Settled.TheVariants as told
use Rattle.us_calendar.specs.Kept.{settle_from, state_from}
use Rattle.us_calendar.specs.Laws.{IsAsHeard, AreFirst}
use Rattle.us_calendar.proofs.IdealLemmas.{HasWindows, ideal-rises}
use Rattle.us_calendar.proofs.HeardLemmas.{entries_of, entries_heard, entries_stay}
use Rattle.us_calendar.proofs.SettleLemmas.{numbers_of, first_of_all}
use Rattle.us_calendar.proofs.ActivityLemmas.{Held, held_first, held_next, agree, settle_same}
use Rattle.us_calendar.proofs.SpotLemmas.{later_start}
use Rattle.us_calendar.proofs.RunLemmas.{the_some}
use Rattle.us_calendar.proofs.FitLaws.{state_fits}
use Rattle.us_calendar.proofs.OnceLemmas.{one_if, counted, met, no_more, InRound, own_round}

-- entries in order: each goes before all behind it
abbrev pub IsOrdered : List Entry → Type 0
IsOrdered [] = Unit {0}
IsOrdered (e ∷ es) = AllByRecursion (λ d. goes_before e d ≡ true) es × IsOrdered es

first_parts : (r i s j : ℕ) → (nat_lt r s || ((r == s) && nat_lt i j)) ≡ true → (r < s) ⊎ ((r ≡ s) × (i < j))
first_parts r i s j h = elim (cases_order r s) [
  | inl same ↦
      let h' : nat_lt i j ≡ true = rw (le-ltb r s (omega (arith, same)), eq-eqb r s same) at h in
      inr (same, ltb-true i j h')
  | inr other ↦ elim other [
    | inl less ↦ inl less
    | inr more ↦
        let never : false ≡ true = rw (le-ltb r s (omega (arith, more)), ne_eqb r s (λ same. omega (arith, same, more))) at h in
        absurd cc
  ]
]

nameless : (r i s j : ℕ) (x y : Bool) → ((r ≡ s) × (i ≡ j) → ⊥) → ((r == s) && (i == j) && x && y) ≡ false
nameless r i s j x y apart = elim (cases_order r s) [
  | inl same ↦ rw (eq-eqb r s same, ne_eqb i j (λ equal. apart (same, equal))) refl
  | inr other ↦ elim other [
    | inl less ↦ rw (ne_eqb r s (λ same. omega (arith, same, less))) refl
    | inr more ↦ rw (ne_eqb r s (λ same. omega (arith, same, more))) refl
  ]
]

turn_before : (r i s j : ℕ) (rest : Bool) → (r < s) ⊎ ((r ≡ s) × (i < j)) →
    (nat_lt r s || ((r == s) && (nat_lt i j || ((i == j) && rest)))) ≡ true
turn_before r i s j rest (inl less) = rw (lt-ltb r s less) refl
turn_before r i s j rest (inr same) =
    rw (le-ltb r s (omega (arith, same.0)), eq-eqb r s same.0, lt-ltb i j same.1) refl

turn_behind : (r i s j : ℕ) (rest : Bool) → (s < r) ⊎ ((s ≡ r) × (j < i)) →
    (nat_lt r s || ((r == s) && (nat_lt i j || ((i == j) && rest)))) ≡ false
turn_behind r i s j rest (inl more) =
    rw (le-ltb r s (omega (arith, more)), ne_eqb r s (λ same. omega (arith, same, more))) refl
turn_behind r i s j rest (inr same) =
    rw (le-ltb r s (omega (arith, same.0)), eq-eqb r s (sym same.0), le-ltb i j (omega (arith, same.1)), ne_eqb i j (λ equal. omega (arith, equal, same.1))) refl

at_place : {X : Type 0} (P : X → Type 0) (xs : List X) (p : ℕ) (x : X) → AllByRecursion P xs →
    slice_get xs p ≡ Some x → P x
at_place P [] p x all is = let never : None ≡ Some x = is in cc
at_place P (y ∷ xs) zero x all is =
    let same : Some y ≡ Some x = is in
    let equal : y ≡ x = cc in
    subst P equal all.0
at_place P (y ∷ xs) (suc p) x all is = at_place P xs p x all.1 is

all_places : {X : Type 0} (P : X → Type 0) (xs : List X) → ((p : ℕ) (x : X) → slice_get xs p ≡ Some x → P x) →
    AllByRecursion P xs
all_places P [] each = tt
all_places P (x ∷ xs) each = (each zero x refl, all_places P xs (λ p. each (suc p)))

mapped_at : {X Y : Type 0} (f : X → Y) (xs : List X) (p : ℕ) (x : X) → slice_get xs p ≡ Some x →
    slice_get (map f xs) p ≡ Some (f x)
mapped_at f [] p x is = let never : None ≡ Some x = is in cc
mapped_at f (y ∷ xs) zero x is =
    let same : Some y ≡ Some x = is in
    let equal : y ≡ x = cc in
    ap (λ z. Some (f z)) equal
mapped_at f (y ∷ xs) (suc p) x is = mapped_at f xs p x is

module _ (pace : Pace) (e : Entry) (n : ℕ) where
  -- told of another entry, that has its turn before or not
  abbrev IsOther : Bool → Settled → Type 0
  IsOther earlier s = (grants e n s ≡ false) × (misses e n s ≡ false) × (is_earlier e n s ≡ earlier)

  other_told : (a : Entry) (earlier : Bool) → ((x y : Bool) →
      ((rank_of a.kind == rank_of e.kind) && (a.id == e.id) && x && y) ≡ false) → ((number : ℕ) →
      has_turn_before e n (rank_of a.kind) a.id number ≡ earlier) → (m : Settlement) → IsOther earlier (told_as a m)
  other_told a earlier named turn m = by m.start
    where
      by : (start : Option ℕ) → IsOther earlier (told_as a (record { number = m.number; active = m.active; start = start }))
      by (Some at) = (
        named (m.number / a.grants == n / e.grants) (m.number % a.grants == n % e.grants),
        refl,
        turn (m.number / a.grants * e.grants + m.number % a.grants),
      )
      by None = (
        refl,
        named (m.number / a.grants == n / e.grants) (m.number % a.grants == n % e.grants),
        turn (m.number / a.grants * e.grants + m.number % a.grants),
      )

  told_before : (a : Entry) → goes_before a e ≡ true → (m : Settlement) → IsOther true (told_as a m)
  told_before a h =
      let parts = first_parts (rank_of a.kind) a.id (rank_of e.kind) e.id h in
      other_told a true (λ x y. nameless (rank_of a.kind) a.id (rank_of e.kind) e.id x y (λ same. elim parts [
        | inl less ↦ omega (arith, less, same.0)
        | inr less ↦ omega (arith, less.1, same.1)
      ])) (λ number. turn_before (rank_of a.kind) a.id (rank_of e.kind) e.id (nat_lt number n) parts)

  told_behind : (a : Entry) → goes_before e a ≡ true → (m : Settlement) → IsOther false (told_as a m)
  told_behind a h =
      let parts = first_parts (rank_of e.kind) e.id (rank_of a.kind) a.id h in
      other_told a false (λ x y. nameless (rank_of a.kind) a.id (rank_of e.kind) e.id x y (λ same. elim parts [
        | inl less ↦ omega (arith, less, same.0)
        | inr less ↦ omega (arith, less.1, same.1)
      ])) (λ number. turn_behind (rank_of a.kind) a.id (rank_of e.kind) e.id (nat_lt number n) parts)

  all_mapped : {X : Type 0} (P : Settled → Type 0) (f : X → Settled) (xs : List X) → ((x : X) → P (f x)) →
      AllByRecursion P (map f xs)
  all_mapped P f [] each = tt
  all_mapped P f (x ∷ xs) each = (each x, all_mapped P f xs each)

  none_granted : (earlier : Bool) (told : List Settled) → AllByRecursion (IsOther earlier) told →
      count_by (grants e n) told ≡ 0
  none_granted earlier [] all = refl
  none_granted earlier (s ∷ told) all =
      let first = ap one_if all.0.0 in
      let rest = none_granted earlier told all.1 in
      omega (arith, first, rest, sum_by-cons (λ s. one_if (grants e n s)) s told)

  none_missed : (earlier : Bool) (told : List Settled) → AllByRecursion (IsOther earlier) told →
      count_by (misses e n) told ≡ 0
  none_missed earlier [] all = refl
  none_missed earlier (s ∷ told) all =
      let first = ap one_if all.0.1 in
      let rest = none_missed earlier told all.1 in
      omega (arith, first, rest, sum_by-cons (λ s. one_if (misses e n s)) s told)

  all_earlier : (told : List Settled) → AllByRecursion (IsOther true) told → filter (is_earlier e n) told ≡ told
  all_earlier [] all = refl
  all_earlier (s ∷ told) all = rw (all.0.2) (ap (λ ss. s ∷ ss) (all_earlier told all.1))

  none_earlier : (told : List Settled) → AllByRecursion (IsOther false) told → filter (is_earlier e n) told ≡ []
  none_earlier [] all = refl
  none_earlier (s ∷ told) all = rw (all.0.2) (none_earlier told all.1)

  module _ (speaks : ℕ → Bool) (r : ℕ) where
    other_right : (earlier : Bool) (b : Board) (s : Settled) → IsOther earlier s →
        IsRight pace r e (speaks (ideal e n)) n b s
    other_right earlier b (told.Granted kind id i k start slots owner) is =
        λ named. let never : false ≡ true = sym is.0 ∙ named in absurd cc
    other_right earlier b (told.Missed kind id i k) is =
        λ named. let never : false ≡ true = sym is.1 ∙ named in absurd cc

    others_right : (earlier : Bool) (b : Board) (told : List Settled) → AllByRecursion (IsOther earlier) told →
        AllByRecursion (IsRight pace r e (speaks (ideal e n)) n b) told
    others_right earlier b [] all = tt
    others_right earlier b (s ∷ told) all = (other_right earlier b s all.0, others_right earlier b told all.1)

    -- what is told beside others
    beside : (first next : ℕ) (inner outer : Board) (told all : List Settled) →
        count_by (grants e n) all ≡ count_by (grants e n) told →
        count_by (misses e n) all ≡ count_by (misses e n) told → met e n outer all ≡ met e n inner told →
        (AllByRecursion (IsRight pace r e (speaks (ideal e n)) n (met e n outer all)) told →
        AllByRecursion (IsRight pace r e (speaks (ideal e n)) n (met e n outer all)) all) → InRound pace r e speaks n first next inner told →
        InRound pace r e speaks n first next outer all
    beside first next inner outer told all granted missed board right of =
        record {
          rises = of.rises;
          before = λ less. let none = of.before less in omega (arith, granted, missed, none);
          left_out = λ out. let none = of.left_out out in omega (arith, granted, missed, none);
          once = λ it low high. let one = of.once it low high in omega (arith, granted, missed, one);
          behind = λ past. let none = of.behind past in omega (arith, granted, missed, none);
          over = of.over;
          still = λ late. missed ∙ of.still late;
          right = right (subst (λ b. AllByRecursion (IsRight pace r e (speaks (ideal e n)) n b) told) (sym board) of.right);
          room = λ it low none. ap (λ b. spot pace r e (speaks (ideal e n)) n b) board ∙ of.room it low (sym granted ∙ none);
        }

    behind_others : (first next : ℕ) (board after : Board) (others told : List Settled) →
        AllByRecursion (IsOther true) others → after ≡ assign_all board (flat_map assignments_of others) →
        InRound pace r e speaks n first next after told → InRound pace r e speaks n first next board (others ++ told)
    behind_others first next board after others told all after_is of =
        let earlier : List Settled = filter (is_earlier e n) told in
        let granted = sum_by-append (λ s. one_if (grants e n s)) others told in
        let missed = sum_by-append (λ s. one_if (misses e n s)) others told in
        let granted_none = none_granted true others all in
        let missed_none = none_missed true others all in
        let kept : filter (is_earlier e n) (others ++ told) ≡ others ++ earlier =
        filter-append (is_earlier e n) others told ∙ ap (λ ss. ss ++ earlier) (all_earlier others all) in
        let board_is = ap (λ ss. assign_all board (flat_map assignments_of ss)) kept ∙
        ap (assign_all board) (flat_map-append assignments_of others earlier) ∙
        assign_all-append board (flat_map assignments_of others) (flat_map assignments_of earlier) ∙
        ap (λ b. assign_all b (flat_map assignments_of earlier)) (sym after_is) in
        beside first next after board told (others ++ told) (omega (arith, granted, granted_none))
        (omega (arith, missed, missed_none)) board_is
        (λ right. all-append (IsRight pace r e (speaks (ideal e n)) n (met e n board (others ++ told))) others told
        (others_right true (met e n board (others ++ told)) others all) right) of

    before_others : (first next : ℕ) (board : Board) (told others : List Settled) →
        AllByRecursion (IsOther false) others → InRound pace r e speaks n first next board told →
        InRound pace r e speaks n first next board (told ++ others)
    before_others first next board told others all of =
        let earlier : List Settled = filter (is_earlier e n) told in
        let granted = sum_by-append (λ s. one_if (grants e n s)) told others in
        let missed = sum_by-append (λ s. one_if (misses e n s)) told others in
        let granted_none = none_granted false others all in
        let missed_none = none_missed false others all in
        let kept : filter (is_earlier e n) (told ++ others) ≡ earlier =
        filter-append (is_earlier e n) told others ∙ ap (λ ss. earlier ++ ss) (none_earlier others all) ∙
        append-nil earlier in
        beside first next board board told (told ++ others) (omega (arith, granted, granted_none))
        (omega (arith, missed, missed_none)) (ap (λ ss. assign_all board (flat_map assignments_of ss)) kept)
        (λ right. all-append (IsRight pace r e (speaks (ideal e n)) n (met e n board (told ++ others))) told others right
        (others_right false (met e n board (told ++ others)) others all)) of

    run_behind : (states : List EntryState) (board : Board) → AllByRecursion (λ d. goes_before e d ≡ true) (entries_of states) →
        AllByRecursion (IsOther false) (run_entries pace r states board).settled
    unfolding run_entries
    run_behind [] board all = tt
    run_behind (state ∷ states) board all =
        let one : SettledEntry = settle_state pace r state board in
        let rest : Ran = run_entries pace r states one.board in
        all-append (IsOther false) (map (told_as state.entry) one.settlements) rest.settled
        (all_mapped (IsOther false) (told_as state.entry) one.settlements (told_behind state.entry all.0))
        (run_behind states one.board all.1)

    -- a round of all entries, of which this one stands at a place, with its flow active or silent as what is kept of it says
    module _ (active : Bool) (waiting : Option Bool) (first : ℕ) where
      abbrev was : EntryState
      was = state_from e active waiting first

      -- and then
      abbrev then_at : ℕ → EntryState
      then_at next = state_from e active (waiting_at (end_of pace r) was (ideal e next)) next

      pub record RoundOf (p : ℕ) (states : List EntryState) (board : Board) : Type 0 where
        pub next : ℕ
        pub state : slice_get (run_entries pace r states board).states p ≡ Some (then_at next)
        pub comes : comes e speaks next ≡ true
        pub not_over : end_of pace r ≤ window_end e next
        pub of : InRound pace r e speaks n first next board (run_entries pace r states board).settled

      settled_state : (next : ℕ) (settlements : List Settlement) →
          range_with_len 0 first ++ numbers_of e settlements ≡ range_with_len 0 next →
          after_settling (end_of pace r) was settlements ≡ then_at next
      settled_state next settlements is =
          ap (λ settled. record {
            entry = e;
            settled = settled;
            active = active;
            waiting = waiting_at (end_of pace r) was (ideal e (length settled));
          }) is ∙ ap (λ k. state_from e active (waiting_at (end_of pace r) was (ideal e k)) next)
          (length-range_with_len 0 next)

      module _ (windows : HasWindows e) (it : comes e speaks first ≡ true) (fresh : end_after pace r ≤ window_end e first)
          (agree : (m : ℕ) → first ≤ m → ideal e m < end_of pace r → speaks_in was (ideal e m) ≡ speaks (ideal e m)) where
        same_turn : (board : Board) → settle_state pace r was board ≡ settle_from pace r e speaks first board
        same_turn board = settle_same pace r e (speaks_in was) speaks first board agree

        own_turn : (states : List EntryState) (board : Board) →
            AllByRecursion (λ d. goes_before e d ≡ true) (entries_of states) → RoundOf zero (was ∷ states) board
        unfolding run_entries
        own_turn states board behind =
            let one : SettledEntry = settle_state pace r was board in
            let turn = own_round pace r e speaks n (end_of pace r * e.grants) first board windows it fresh (omega arith) in
            let others = run_behind states one.board behind in
            let told = subst (λ (o : SettledEntry). InRound pace r e speaks n first turn.0 board (map (told_as e) o.settlements))
            (sym (same_turn board)) turn.4.of in
            record {
              next = turn.0;
              state = ap Some (settled_state turn.0 one.settlements
                  (ap (λ (o : SettledEntry). range_with_len 0 first ++ numbers_of e o.settlements) (same_turn board) ∙ turn.1));
              comes = turn.2;
              not_over = turn.3;
              of = before_others first turn.0 board (map (told_as e) one.settlements)
                  (run_entries pace r states one.board).settled others told;
            }

        pub run_round : (states : List EntryState) (p : ℕ) (board : Board) → IsOrdered (entries_of states) →
            slice_get states p ≡ Some was → RoundOf p states board
        unfolding run_entries
        run_round [] p board ordered at = let never : None ≡ Some was = at in cc
        run_round (state ∷ states) zero board ordered at =
            let same : state ≡ was = the_some state was at in
            subst (λ x. RoundOf zero (x ∷ states) board) (sym same) (own_turn states board
            (subst (λ x. AllByRecursion (λ d. goes_before x.entry d ≡ true) (entries_of states)) same ordered.0))
        run_round (state ∷ states) (suc p) board ordered at =
            let one : SettledEntry = settle_state pace r state board in
            let rest = run_round states p one.board ordered.1 at in
            let before = at_place (λ d. goes_before state.entry d ≡ true) (entries_of states) p e ordered.0
            (mapped_at (λ x. x.entry) states p was at) in
            record {
              next = rest.next;
              state = rest.state;
              comes = rest.comes;
              not_over = rest.not_over;
              of = behind_others first rest.next board one.board (map (told_as state.entry) one.settlements)
                  (run_entries pace r states one.board).settled
                  (all_mapped (IsOther true) (told_as state.entry) one.settlements (told_before state.entry before))
                  (state_fits pace r state board).board rest.of;
            }

  -- rounds from round `r` on

  abbrev both : List Round → ℕ
  both rounds = times (grants e n) rounds + times (misses e n) rounds

  module _ (speaks : ℕ → Bool) where
    record Story (r first : ℕ) (rounds : List Round) : Type 0 where
      pub early : n < first → both rounds ≡ 0
      pub most : both rounds ≤ 1
      pub left_out : comes e speaks n ≡ false → both rounds ≡ 0
      pub closed : comes e speaks n ≡ true → first ≤ n → window_end e n < end_after pace (r + length rounds) →
          both rounds ≡ 1
      pub waits : end_after pace (r + length rounds) ≤ window_end e n → times (misses e n) rounds ≡ 0
      pub right : (q : ℕ) (round : Round) → slice_get rounds q ≡ Some round →
          AllByRecursion (IsRight pace (r + q) e (speaks (ideal e n)) n (board_at_turn e n round)) round.settled
      pub room : comes e speaks n ≡ true → (n < first → window_end e n < end_after pace r) → (q : ℕ) (round : Round) →
          slice_get rounds q ≡ Some round → times (grants e n) (take (q + 1) rounds) ≡ 0 →
          spot pace (r + q) e (speaks (ideal e n)) n (board_at_turn e n round) ≡ None

    later_end : (a b : ℕ) → a ≤ b → end_after pace a ≤ end_after pace b
    later_end a b h = later_start pace.time (a * pace.len) (b * pace.len) (mul-le a pace.len b pace.len h (omega arith))

    no_round : (round : Round) (q : ℕ) → slice_get {X = Round} [] q ≡ Some round → ⊥
    no_round round q is = let never : None ≡ Some round = is in cc

    ended : (r first : ℕ) → HasWindows e → end_after pace r ≤ window_end e first → Story r first []
    ended r first windows fresh =
        record {
          early = λ _. refl;
          most = omega arith;
          left_out = λ _. refl;
          closed = λ _ low past.
              let same : r + length {A = Round} [] ≡ r = omega arith in
              let ends : window_end e n < end_after pace r = subst (λ c. window_end e n < end_after pace c) same past in
              let rises = ideal-rises e first n windows low in
              absurd (omega (arith, ends, fresh, rises));
          waits = λ _. refl;
          right = λ q round is. absurd (no_round round q is);
          room = λ _ _ q round is _. absurd (no_round round q is);
        }

    module _ (r first next : ℕ) (round : Round) (rest : List Round)
        (here : InRound pace r e speaks n first next round.board round.settled) (behind : Story (r + 1) next rest) where
      granted_more : (more : List Round) →
          times (grants e n) (round ∷ more) ≡ count_by (grants e n) round.settled + times (grants e n) more
      granted_more more = sum_by-cons (λ one. count_by (grants e n) one.settled) round more

      missed_more :
          times (misses e n) (round ∷ rest) ≡ count_by (misses e n) round.settled + times (misses e n) rest
      missed_more = sum_by-cons (λ one. count_by (misses e n) one.settled) round rest

      long : r + length (round ∷ rest) ≡ r + 1 + length rest
      long = omega arith

      granted_first : (q : ℕ) → times (grants e n) (take (q + 1) (round ∷ rest)) ≡
          count_by (grants e n) round.settled + times (grants e n) (take q rest)
      granted_first q = rw add-one (granted_more (take q rest))

      passed : comes e speaks n ≡ true → (n < first → window_end e n < end_after pace r) →
          count_by (grants e n) round.settled ≡ 0 → n < next → window_end e n < end_after pace (r + 1)
      passed it old none less = elim (cases_lt n first) [
        | inl earlier ↦
            let past = old earlier in
            let later = later_end r (r + 1) (omega arith) in
            omega (arith, past, later)
        | inr low ↦ elim (cases_lt (window_end e n) (end_after pace (r + 1))) [
          | inl past ↦ past
          | inr late ↦
              let missed = here.still (omega (arith, late)) in
              let one = here.once it (omega (arith, low)) less in
              absurd (omega (arith, none, missed, one))
        ]
      ]

      room_at : comes e speaks n ≡ true → (n < first → window_end e n < end_after pace r) → (q : ℕ) (one : Round) →
          slice_get (round ∷ rest) q ≡ Some one → times (grants e n) (take (q + 1) (round ∷ rest)) ≡ 0 →
          spot pace (r + q) e (speaks (ideal e n)) n (board_at_turn e n one) ≡ None
      room_at it old zero one is none =
          let same : Some round ≡ Some one = is in
          let equal : round ≡ one = cc in
          let here_none : count_by (grants e n) round.settled ≡ 0 = omega (arith, granted_first zero, none) in
          let now : r ≡ r + zero = omega arith in
          let fits_not : spot pace r e (speaks (ideal e n)) n (board_at_turn e n round) ≡ None = elim (cases_lt n first) [
            | inl earlier ↦ no_more pace r e (speaks (ideal e n)) n (board_at_turn e n round) (old earlier)
            | inr low ↦ here.room it (omega (arith, low)) here_none
          ] in
          subst (λ (x : Round). spot pace (r + zero) e (speaks (ideal e n)) n (board_at_turn e n x) ≡ None) equal
          (subst (λ c. spot pace c e (speaks (ideal e n)) n (board_at_turn e n round) ≡ None) now fits_not)
      room_at it old (suc q) one is none =
          let here_none : count_by (grants e n) round.settled ≡ 0 = omega (arith, granted_first (suc q), none) in
          let rest_none : times (grants e n) (take (suc q) rest) ≡ 0 = omega (arith, granted_first (suc q), none) in
          let later_none : times (grants e n) (take (q + 1) rest) ≡ 0 = rw add-one rest_none in
          let now : r + 1 + q ≡ r + suc q = omega arith in
          subst (λ c. spot pace c e (speaks (ideal e n)) n (board_at_turn e n one) ≡ None) now
          (behind.room it (passed it old here_none) q one is later_none)

      right_at : (q : ℕ) (one : Round) → slice_get (round ∷ rest) q ≡ Some one →
          AllByRecursion (IsRight pace (r + q) e (speaks (ideal e n)) n (board_at_turn e n one)) one.settled
      right_at zero one is =
          let same : Some round ≡ Some one = is in
          let equal : round ≡ one = cc in
          let now : r ≡ r + zero = omega arith in
          subst (λ (x : Round).
          AllByRecursion (IsRight pace (r + zero) e (speaks (ideal e n)) n (board_at_turn e n x)) x.settled) equal
          (subst (λ c. AllByRecursion (IsRight pace c e (speaks (ideal e n)) n (board_at_turn e n round)) round.settled) now here.right)
      right_at (suc q) one is =
          let now : r + 1 + q ≡ r + suc q = omega arith in
          subst (λ c. AllByRecursion (IsRight pace c e (speaks (ideal e n)) n (board_at_turn e n one)) one.settled) now
          (behind.right q one is)

      one_more : Story r first (round ∷ rest)
      one_more =
          let rises = here.rises in
          record {
            early = λ less.
                let now = here.before less in
                let later = behind.early (omega (arith, less, rises)) in
                omega (arith, granted_more rest, missed_more, now, later);
            most = elim (cases_lt n next) [
              | inl less ↦
                  let later = behind.early less in
                  let now = few less in
                  omega (arith, granted_more rest, missed_more, now, later)
              | inr past ↦
                  let later = behind.most in
                  let now = here.behind (omega (arith, past)) in
                  omega (arith, granted_more rest, missed_more, now, later)
            ];
            left_out = λ out.
                let now = here.left_out out in
                let later = behind.left_out out in
                omega (arith, granted_more rest, missed_more, now, later);
            closed = λ it low past. elim (cases_lt n next) [
              | inl less ↦
                  let later = behind.early less in
                  let now = here.once it low less in
                  omega (arith, granted_more rest, missed_more, now, later)
              | inr behind_it ↦
                  let later = behind.closed it (omega (arith, behind_it))
                  (subst (λ c. window_end e n < end_after pace c) long past) in
                  let now = here.behind (omega (arith, behind_it)) in
                  omega (arith, granted_more rest, missed_more, now, later)
            ];
            waits = λ late.
                let end = subst (λ c. end_after pace c ≤ window_end e n) long late in
                let this = later_end (r + 1) (r + 1 + length rest) (omega arith) in
                let now = here.still (omega (arith, end, this)) in
                let later = behind.waits end in
                omega (arith, missed_more, now, later);
            right = right_at;
            room = room_at;
          }
        where
          few : n < next → counted e n round.settled ≤ 1
          few less = elim (cases_lt n first) [
            | inl earlier ↦ let none = here.before earlier in omega (arith, none)
            | inr low ↦ elim (cases_Bool (comes e speaks n)) [
              | inl it ↦ let one = here.once it (omega (arith, low)) less in omega (arith, one)
              | inr out ↦ let none = here.left_out out in omega (arith, none)
            ]
          ]

-- The rounds of a run with its cuts: of an entry at a place, what is kept of it is what the cuts say.

module _ (pace : Pace) (cuts : List (List ℕ)) (e : Entry) (windows : HasWindows e) where
  abbrev speaks : ℕ → Bool
  speaks = speaks_by pace cuts e

  -- it stands at a place after some rounds
  pub record Stands (before : List (List ℕ)) (p : ℕ) (states : List EntryState) : Type 0 where
    pub active : Bool
    pub waiting : Option Bool
    pub first : ℕ
    pub there : slice_get states p ≡ Some (state_from e active waiting first)
    pub held : Held pace cuts e before active waiting first

  module _ (before rest : List (List ℕ)) (cut : List ℕ) (r p : ℕ) (states : List EntryState) (board : Board)
      (all : cuts ≡ before ++ cut ∷ rest) (long : length before ≡ r) (ordered : IsOrdered (entries_of states))
      (s : Stands before p states) where
    abbrev now : Bool
    now = hears_of e.silence s.active cut

    abbrev hearing : List EntryState
    hearing = map (heard cut) states

    pub its_round : (n : ℕ) → RoundOf pace e n speaks r now s.waiting s.first p hearing board
    its_round n =
        run_round pace e n speaks r now s.waiting s.first windows s.held.comes
        (subst (λ k. end_after pace k ≤ window_end e s.first) long s.held.not_over)
        (agree pace cuts e before rest cut r s.first s.active s.waiting all long windows s.held) hearing p board
        (subst IsOrdered (sym (entries_heard cut states)) ordered)
        (mapped_at (heard cut) states p (state_from e s.active s.waiting s.first) s.there)

    abbrev pub then_stands : (n : ℕ) → RoundOf pace e n speaks r now s.waiting s.first p hearing board →
        Stands (before ++ cut ∷ []) p (run_entries pace r hearing board).states
    then_stands n round =
        record {
          active = now;
          waiting = waiting_at (end_of pace r) (state_from e now s.waiting s.first) (ideal e round.next);
          first = round.next;
          there = round.state;
          held = held_next pace cuts e before rest cut r s.first s.active s.waiting all long windows s.held round.next
              round.of.rises round.comes round.not_over;
        }

    pub then_ordered : IsOrdered (entries_of (run_entries pace r hearing board).states)
    then_ordered =
        subst IsOrdered (sym (entries_stay pace r hearing board ∙ entries_heard cut states)) ordered

  more_before : (before rest : List (List ℕ)) (cut : List ℕ) → cuts ≡ before ++ cut ∷ rest → cuts ≡ (before ++ cut ∷ []) ++ rest
  more_before before rest cut all = all ∙ sym (append_assoc before (cut ∷ []) rest)

  longer : (before : List (List ℕ)) (cut : List ℕ) (r : ℕ) → length before ≡ r → length (before ++ cut ∷ []) ≡ r + 1
  longer before cut r long = length-append before (cut ∷ []) ∙ ap (λ k. k + 1) long

  story : (n : ℕ) (left : List (List ℕ)) (boards : List Board) (before : List (List ℕ)) (r p : ℕ)
      (states : List EntryState) → cuts ≡ before ++ left → length before ≡ r → IsOrdered (entries_of states) →
      (s : Stands before p states) →
      Story pace e n speaks r s.first (rounds_on (record { pace = pace; next_round = r; states = states }) left boards)
  story n [] boards before r p states all long ordered s =
      ended pace e n speaks r s.first windows (subst (λ k. end_after pace k ≤ window_end e s.first) long s.held.not_over)
  story n (cut ∷ left) [] before r p states all long ordered s =
      ended pace e n speaks r s.first windows (subst (λ k. end_after pace k ≤ window_end e s.first) long s.held.not_over)
  story n (cut ∷ left) (board ∷ boards) before r p states all long ordered s =
      let round = its_round before left cut r p states board all long ordered s n in
      let behind = then_stands before left cut r p states board all long ordered s n round in
      let done : Ran = run_entries pace r (map (heard cut) states) board in
      one_more pace e n speaks r s.first round.next (record { board = board; settled = done.settled })
      (rounds_on (record { pace = pace; next_round = r + 1; states = done.states }) left boards) round.of
      (story n left boards (before ++ cut ∷ []) (r + 1) p done.states (more_before before left cut all)
      (longer before cut r long) (then_ordered before left cut r p states board all long ordered s) behind)

  -- after all of them, and before others of the run
  pub through : (rest left : List (List ℕ)) (boards : List Board) (before : List (List ℕ)) (r p : ℕ)
      (states : List EntryState) → cuts ≡ before ++ (left ++ rest) → length before ≡ r → length left ≡ length boards →
      IsOrdered (entries_of states) → Stands before p states →
      Stands (before ++ left) p (after_rounds (record { pace = pace; next_round = r; states = states }) left boards).states
  through rest [] boards before r p states all long many ordered s =
      subst (λ cs. Stands cs p states) (sym (append-nil before)) s
  through rest (cut ∷ left) [] before r p states all long many ordered s = absurd (omega (arith, many))
  through rest (cut ∷ left) (board ∷ boards) before r p states all long many ordered s =
      let done : Ran = run_entries pace r (map (heard cut) states) board in
      let next : Calendar = record { pace = pace; next_round = r + 1; states = done.states } in
      subst (λ cs. Stands cs p (after_rounds next left boards).states) (append_assoc before (cut ∷ []) left)
      (through rest left boards (before ++ cut ∷ []) (r + 1) p done.states (more_before before (left ++ rest) cut all)
      (longer before cut r long) (omega (arith, many))
      (then_ordered before (left ++ rest) cut r p states board all long ordered s)
      (then_stands before (left ++ rest) cut r p states board all long ordered s 0
      (its_round before (left ++ rest) cut r p states board all long ordered s 0)))

-- of a calendar from round 0 on

entries_again : (es : List Entry) → entries_of (map opening_state es) ≡ es
entries_again [] = refl
entries_again (e ∷ es) = ap (λ more. e ∷ more) (entries_again es)

abbrev opening_stands : (pace : Pace) (cuts : List (List ℕ)) (es : List Entry) (p : ℕ) (e : Entry) (windows : HasWindows e) →
    slice_get es p ≡ Some e → Stands pace cuts e windows [] p (map opening_state es)
opening_stands pace cuts es p e windows at = record {
  active = true;
  waiting = None;
  first = 0;
  there = mapped_at opening_state es p e at;
  held = held_first pace cuts e windows;
}

pub settled_once : (pace : Pace) (es : List Entry) (cuts : List (List ℕ)) (boards : List Board) → IsOrdered es →
    AllByRecursion HasWindows es → AllByRecursion (λ e. (n : ℕ) → IsSettledOnce pace (speaks_by pace cuts e)
    (rounds_on (record { pace = pace; next_round = 0; states = map opening_state es }) cuts boards) e n) es
settled_once pace es cuts boards ordered windows =
    all_places (λ e. (n : ℕ) → IsSettledOnce pace (speaks_by pace cuts e) all e n) es (λ p e at n.
    let has = at_place HasWindows es p e windows at in
    let it = story pace cuts e has n cuts boards [] 0 p (map opening_state es) refl refl
    (subst IsOrdered (sym (entries_again es)) ordered) (opening_stands pace cuts es p e has at) in
    let start : 0 + length all ≡ length all = omega arith in
    let active : Bool = speaks_by pace cuts e (ideal e n) in
    record {
      left_out = it.left_out;
      closed = λ comes past.
          it.closed comes (omega arith) (subst (λ c. window_end e n < end_after pace c) (sym start) past);
      waits = λ late. (
        (let most = it.most in omega (arith, most)),
        it.waits (subst (λ c. end_after pace c ≤ window_end e n) (sym start) late),
      );
      right = λ r round is. subst (λ c. AllByRecursion (IsRight pace c e active n (board_at_turn e n round)) round.settled)
          (from_zero r) (it.right r round is);
      no_room = λ comes r round is none. subst (λ c. spot pace c e active n (board_at_turn e n round) ≡ None)
          (from_zero r) (it.room comes (λ less. absurd (omega (arith, less))) r round is none);
    })
  where
    all : List Round
    all = rounds_on (record { pace = pace; next_round = 0; states = map opening_state es }) cuts boards

    from_zero : (r : ℕ) → 0 + r ≡ r
    from_zero r = omega arith

-- what is kept is what the cuts say

entries_after : (calendar : Calendar) (cuts : List (List ℕ)) (boards : List Board) →
    entries_of (after_rounds calendar cuts boards).states ≡ entries_of calendar.states
entries_after calendar [] boards = refl
entries_after calendar (cut ∷ cuts) [] = refl
entries_after calendar (cut ∷ cuts) (board ∷ boards) =
    entries_after (after calendar cut board) cuts boards ∙
    entries_stay calendar.pace calendar.next_round (map (heard cut) calendar.states) board ∙
    entries_heard cut calendar.states

as_heard : (pace : Pace) (cuts : List (List ℕ)) (e : Entry) (active : Bool) (waiting : Option Bool) (first : ℕ) →
    Held pace cuts e cuts active waiting first → IsAsHeard pace cuts (state_from e active waiting first)
as_heard pace cuts e active waiting first held =
    let number : length (range_with_len 0 first) ≡ first = length-range_with_len 0 first in
    record {
      active = held.active_is;
      waiting = λ silence detected. held.waiting_is silence detected ∙ ap (λ k. if nat_lt (ideal e k) (end_after pace (length cuts))
          then Some (speaks_by pace cuts e (ideal e k)) else None) (sym number);
    }

-- what is settled are the first ones

abbrev IsFirst : Pace → List (List ℕ) → EntryState → Type 0
IsFirst pace cuts row =
    AreFirst (end_after pace (length cuts)) row.entry (speaks_by pace cuts row.entry) row.settled (length row.settled)

as_first : (pace : Pace) (cuts : List (List ℕ)) (e : Entry) (active : Bool) (waiting : Option Bool) (first : ℕ) →
    HasWindows e → Held pace cuts e cuts active waiting first → IsFirst pace cuts (state_from e active waiting first)
as_first pace cuts e active waiting first windows held =
    let settled : List ℕ = range_with_len 0 first in
    let number : length settled ≡ first = length-range_with_len 0 first in
    subst (AreFirst (end_after pace (length cuts)) e (speaks_by pace cuts e) settled) (sym number)
    (first_of_all (end_after pace (length cuts)) e (speaks_by pace cuts e) first windows held.comes held.not_over settled refl)

stands_so : (P : EntryState → Type 0) (pace : Pace) (cuts before : List (List ℕ)) (e : Entry) (windows : HasWindows e) (p : ℕ)
    (states : List EntryState) (state : EntryState) →
    ((active : Bool) (waiting : Option Bool) (first : ℕ) → Held pace cuts e before active waiting first →
    P (state_from e active waiting first)) → Stands pace cuts e windows before p states → slice_get states p ≡ Some state → P state
stands_so P pace cuts before e windows p states state so s at =
    let is : EntryState = state_from e s.active s.waiting s.first in
    let same : Some is ≡ Some state = sym s.there ∙ at in
    subst P (the_some is state same) (so s.active s.waiting s.first s.held)

-- what is so of each that is kept so is so of all of them, after the first rounds of a run
pub after_all : (P : EntryState → Type 0) (pace : Pace) (es : List Entry) (run cuts rest : List (List ℕ)) (boards : List Board) →
    run ≡ cuts ++ rest → ((e : Entry) (active : Bool) (waiting : Option Bool) (first : ℕ) → HasWindows e →
    Held pace run e cuts active waiting first → P (state_from e active waiting first)) → IsOrdered es →
    AllByRecursion HasWindows es → length cuts ≡ length boards →
    AllByRecursion P (after_rounds (record { pace = pace; next_round = 0; states = map opening_state es }) cuts boards).states
after_all P pace es run cuts rest boards parts so ordered windows many = all_places P last (λ p state at.
    let e : Entry = state.entry in
    let place : slice_get es p ≡ Some e = subst (λ ds. slice_get ds p ≡ Some e)
    (entries_after opening cuts boards ∙ entries_again es) (mapped_at (λ s. s.entry) last p state at) in
    let has = at_place HasWindows es p e windows place in
    stands_so P pace run cuts e has p last state (λ active waiting first held. so e active waiting first has held)
    (through pace run e has rest cuts boards [] 0 p (map opening_state es) parts refl many
    (subst IsOrdered (sym (entries_again es)) ordered) (opening_stands pace run es p e has place)) at)
  where
    opening : Calendar
    opening = record { pace = pace; next_round = 0; states = map opening_state es }

    last : List EntryState
    last = (after_rounds opening cuts boards).states

pub kinds_as_heard : (pace : Pace) (es : List Entry) (cuts : List (List ℕ)) (boards : List Board) → IsOrdered es →
    AllByRecursion HasWindows es → length cuts ≡ length boards → AllByRecursion (IsAsHeard pace cuts)
    (after_rounds (record { pace = pace; next_round = 0; states = map opening_state es }) cuts boards).states
kinds_as_heard pace es cuts boards =
    after_all (IsAsHeard pace cuts) pace es cuts cuts [] boards (sym (append-nil cuts))
    (λ e active waiting first _. as_heard pace cuts e active waiting first)

pub rows_stand_first : (pace : Pace) (es : List Entry) (cuts : List (List ℕ)) (boards : List Board) → IsOrdered es →
    AllByRecursion HasWindows es → length cuts ≡ length boards → AllByRecursion (IsFirst pace cuts)
    (after_rounds (record { pace = pace; next_round = 0; states = map opening_state es }) cuts boards).states
rows_stand_first pace es cuts boards =
    after_all (IsFirst pace cuts) pace es cuts cuts [] boards (sym (append-nil cuts)) (as_first pace cuts)
