-- What is kept of an entry says of what kind its intervals are, as the cuts of the run do.
use Rattle.std.proofs.Common.{◌≡◌, ℕ, suc, ◌+◌, ◌-◌, ◌*◌, ◌/◌, ◌%◌, ◌<◌, ◌≤◌, ◌==◌, ◌||◌, nat_lt, Bool, true, if◌then◌else◌, List, [], ◌∷◌, ◌++◌, length, filter, take, Option, Some, None, unwrap_or, refl, ap, ap₂, sym, ◌∙◌, inl, inr, lt-ltb, le-ltb, eq-eqb, ne_eqb, arith}
use Rattle.std.specs.List.{range_with_len, AllByRecursion}
use Rattle.std.proofs.lemmas.Bool.{cases_lt, cases_eq}
use Rattle.std.proofs.lemmas.List.FromFn.{length-range_with_len}
use Rattle.std.proofs.lemmas.Nat.{div-mul-add, mul-le}
use Rattle.std.proofs.lemmas.List.{length-append}
use Rattle.us_holes.specs.Boards.{Board}
use Rattle.us_calendar.specs.declared.silences.Silence.{Silence}
use Rattle.us_calendar.specs.Activity.{hears_of, activity, active_in, speaks_by}
use Rattle.us_calendar.specs.Entries.{Entry}
use Rattle.us_calendar.specs.Occurrences.{Pace, ideal, end_of, comes, due, coming, window_end}
use Rattle.us_calendar.specs.Settling.{EntryState, SettledEntry, spot, settlement, with_spot, settle_each, settle_entry, kind_at, if_detected, speaks_in, waiting_at}
use Rattle.us_calendar.specs.Runs.{end_after}
use Rattle.us_calendar.specs.Kept.{settle_from, state_from}
use Rattle.us_calendar.proofs.IdealLemmas.{HasWindows, ideal-apart}
use Rattle.us_calendar.proofs.DueLemmas.{due-all}
use Rattle.us_calendar.proofs.SettleLemmas.{settle_each-cons, then_settle}
use Rattle.us_calendar.proofs.ComingLemmas.{comes_first, filter-all}
use Rattle.us_calendar.proofs.SpotLemmas.{later_start}

-- Activity, cut by cut.

activity-more : (silence : Option Silence) (was : Bool) (cuts : List (List ℕ)) (cut : List ℕ) →
    activity silence was (cuts ++ cut ∷ []) ≡ hears_of silence (activity silence was cuts) cut
activity-more silence was [] cut = refl
activity-more silence was (first ∷ cuts) cut = activity-more silence (hears_of silence was first) cuts cut

-- where it isn't detected, it stays
steady : (silence : Option Silence) (was : Bool) (cuts : List (List ℕ)) → silence ≡ None → activity silence was cuts ≡ was
steady silence was [] none = refl
steady silence was (cut ∷ cuts) none =
    steady silence (hears_of silence was cut) cuts none ∙ ap (λ o. hears_of o was cut) none

take-before : (before rest : List (List ℕ)) (cut : List ℕ) → take (length before + 1) (before ++ cut ∷ rest) ≡ before ++ cut ∷ []
take-before [] rest cut = refl
take-before (first ∷ before) rest cut =
    let count : length (first ∷ before) + 1 ≡ suc (length before + 1) = omega arith in
    ap (λ k. take k (first ∷ before ++ cut ∷ rest)) count ∙ ap (λ cuts. first ∷ cuts) (take-before before rest cut)

pub active_here : (silence : Option Silence) (before rest : List (List ℕ)) (cut : List ℕ) (r : ℕ) → length before ≡ r →
    active_in silence (before ++ cut ∷ rest) r ≡ hears_of silence (activity silence true before) cut
active_here silence before rest cut r long =
    ap (λ k. activity silence true (take (k + 1) (before ++ cut ∷ rest))) (sym long) ∙
    ap (activity silence true) (take-before before rest cut) ∙ activity-more silence true before cut

-- which round holds a time
pub round_of : (pace : Pace) (r time : ℕ) → end_after pace r ≤ time → time < end_of pace r → time / end_of pace 0 ≡ r
round_of pace r time from to =
    let long : ℕ = end_of pace 0 in
    let begin : end_after pace r ≡ r * long = grind arith in
    let end : end_of pace r ≡ r * long + long = grind arith in
    let is : time ≡ r * long + (time - r * long) = omega (arith, begin, from) in
    ap (λ t. t / long) is ∙ div-mul-add r long (time - r * long) (omega (arith, begin, end, from, to))

-- Settling goes by the kinds of what is due alone.

each_same : (pace : Pace) (round : ℕ) (e : Entry) (s t : ℕ → Bool) (ns : List ℕ) (board : Board) →
    AllByRecursion (λ m. s (ideal e m) ≡ t (ideal e m)) ns →
    settle_each pace round e s ns board ≡ settle_each pace round e t ns board
unfolding settle_each
each_same pace round e s t [] board same = refl
each_same pace round e s t (n ∷ ns) board same =
    let active : Bool = t (ideal e n) in
    let found : Option ℕ = spot pace round e active n board in
    settle_each-cons pace round e s n ns board ∙ ap (λ b. then_settle pace round e b n
    (spot pace round e b n board) (settle_each pace round e s ns) board) same.0 ∙ ap (λ (more : SettledEntry). record {
      board = more.board;
      settlements = settlement pace round e active n found ++ more.settlements;
    }) (each_same pace round e s t ns (with_spot e active found board) same.1) ∙
    sym (settle_each-cons pace round e t n ns board)

filter_same : (p q : ℕ → Bool) (ns : List ℕ) → AllByRecursion (λ m. p m ≡ q m) ns → filter p ns ≡ filter q ns
filter_same p q [] same = refl
filter_same p q (n ∷ ns) same =
    ap₂ (λ (b : Bool) (more : List ℕ). if b then n ∷ more else more) same.0 (filter_same p q ns same.1)

all_more : (P Q : ℕ → Type 0) (ns : List ℕ) → ((m : ℕ) → P m → Q m) → AllByRecursion P ns → AllByRecursion Q ns
all_more P Q [] each all = tt
all_more P Q (n ∷ ns) each all = (each n all.0, all_more P Q ns each all.1)

pub settle_same : (pace : Pace) (round : ℕ) (e : Entry) (s t : ℕ → Bool) (first : ℕ) (board : Board) →
    ((m : ℕ) → first ≤ m → ideal e m < end_of pace round → s (ideal e m) ≡ t (ideal e m)) →
    settle_from pace round e s first board ≡ settle_from pace round e t first board
unfolding settle_entry coming
settle_same pace round e s t first board same =
    let end : ℕ = end_of pace round in
    let ns : List ℕ = due e end (range_with_len 0 first) in
    let all : AllByRecursion (λ m. s (ideal e m) ≡ t (ideal e m)) ns =
    all_more (λ m. (first ≤ m) × (ideal e m < end)) (λ m. s (ideal e m) ≡ t (ideal e m)) ns (λ m is. same m is.0 is.1)
    (due-all e end first) in
    let kept : AllByRecursion (λ m. comes e s m ≡ comes e t m) ns =
    all_more (λ m. s (ideal e m) ≡ t (ideal e m)) (λ m. comes e s m ≡ comes e t m) ns
    (λ m is. ap (λ b. b || (m % e.grants == 0)) is) all in
    ap (λ ms. settle_each pace round e s ms board) (filter_same (comes e s) (comes e t) ns kept) ∙
    each_same pace round e s t (filter (comes e t) ns) board
    (filter-all (λ m. s (ideal e m) ≡ t (ideal e m)) (comes e t) ns all)

-- What is kept of an entry before round `r` of a run with these cuts, where the occurrences before `first` are settled.

module _ (pace : Pace) (cuts : List (List ℕ)) (e : Entry) where
  abbrev speaks : ℕ → Bool
  speaks = speaks_by pace cuts e

  pub record Held (before : List (List ℕ)) (active : Bool) (waiting : Option Bool) (first : ℕ) : Type 0 where
    pub active_is : active ≡ activity e.silence true before
    pub waiting_is : (s : Silence) → e.silence ≡ Some s → waiting ≡
        (if nat_lt (ideal e first) (end_after pace (length before)) then Some (speaks (ideal e first)) else None)
    pub comes : comes e speaks first ≡ true
    pub not_over : end_after pace (length before) ≤ window_end e first

  pub held_first : HasWindows e → Held [] true None 0
  held_first windows =
      let begin : end_after pace (length {A = List ℕ} []) ≡ 0 = grind arith in
      record {
        active_is = refl;
        waiting_is = λ _ _. sym (rw (le-ltb (ideal e 0) (end_after pace (length {A = List ℕ} [])) (omega (arith, begin))) refl);
        comes = comes_first e speaks 0 (omega (arith, windows.grants));
        not_over = omega (arith, begin);
      }

  -- in the round, after its cut is heard
  module _ (before rest : List (List ℕ)) (cut : List ℕ) (r first : ℕ) (active : Bool) (waiting : Option Bool)
      (all : cuts ≡ before ++ cut ∷ rest) (long : length before ≡ r) (windows : HasWindows e)
      (held : Held before active waiting first) where
    abbrev pub now : Bool
    now = hears_of e.silence active cut

    abbrev pub state : EntryState
    state = state_from e now waiting first

    now_is : active_in e.silence cuts r ≡ now
    now_is =
        ap (λ cs. active_in e.silence cs r) all ∙ active_here e.silence before rest cut r long ∙
        ap (λ was. hears_of e.silence was cut) (sym held.active_is)

    begins : end_after pace (length before) ≡ end_after pace r
    begins = ap (end_after pace) long

    speaks_now : (time : ℕ) → end_after pace r ≤ time → time < end_of pace r → speaks time ≡ now
    speaks_now time from to = ap (active_in e.silence cuts) (round_of pace r time from to) ∙ now_is

    first_ideal : ideal e (length (range_with_len 0 first)) ≡ ideal e first
    first_ideal = ap (ideal e) (length-range_with_len 0 first)

    agree_steady : (time : ℕ) → e.silence ≡ None → speaks_in state time ≡ speaks time
    agree_steady time none =
        ap (λ silence. if_detected silence (kind_at (ideal e (length (range_with_len 0 first)))
        (unwrap_or waiting now) now time) true) none ∙
        sym (steady e.silence true (take (time / end_of pace 0 + 1) cuts) none)

    module _ (silence : Silence) (detected : e.silence ≡ Some silence) where
      speaks_is : (time : ℕ) → speaks_in state time ≡ kind_at (ideal e first) (unwrap_or waiting now) now time
      speaks_is time =
          ap (λ o. if_detected o (kind_at (ideal e (length (range_with_len 0 first))) (unwrap_or waiting now) now time) true)
          detected ∙ ap (λ at. kind_at at (unwrap_or waiting now) now time) first_ideal

      kept_begun : ideal e first < end_after pace r → waiting ≡ Some (speaks (ideal e first))
      kept_begun begun =
          held.waiting_is silence detected ∙
          rw (lt-ltb (ideal e first) (end_after pace (length before)) (omega (arith, begun, begins))) refl

      kept_none : end_after pace r ≤ ideal e first → waiting ≡ None
      kept_none later =
          held.waiting_is silence detected ∙
          rw (le-ltb (ideal e first) (end_after pace (length before)) (omega (arith, later, begins))) refl

      kept_first : ideal e first < end_of pace r → unwrap_or waiting now ≡ speaks (ideal e first)
      kept_first early = elim (cases_lt (ideal e first) (end_after pace r)) [
        | inl begun ↦ ap (λ w. unwrap_or w now) (kept_begun begun)
        | inr later ↦ ap (λ w. unwrap_or w now) (kept_none later) ∙ sym (speaks_now (ideal e first) later early)
      ]

      agree_kept : (m : ℕ) → first ≤ m → ideal e m < end_of pace r → speaks_in state (ideal e m) ≡ speaks (ideal e m)
      agree_kept m low due = speaks_is (ideal e m) ∙ elim (cases_eq (ideal e m) (ideal e first)) [
        | inl same ↦
            let early : ideal e first < end_of pace r = omega (arith, same, due) in
            rw (eq-eqb (ideal e m) (ideal e first) same) (kept_first early ∙ ap speaks (sym same))
        | inr other ↦
            let apart : end_after pace r ≤ ideal e m = elim (ideal-apart e first m windows low) [
              | inl same ↦ absurd (other same)
              | inr later ↦ omega (arith, later, held.not_over, begins, windows.jitter)
            ] in
            rw (ne_eqb (ideal e m) (ideal e first) other) (sym (speaks_now (ideal e m) apart due))
      ]

    pub agree : (m : ℕ) → first ≤ m → ideal e m < end_of pace r → speaks_in state (ideal e m) ≡ speaks (ideal e m)
    agree m low due = by e.silence refl
      where
        by : (silence : Option Silence) → e.silence ≡ silence → speaks_in state (ideal e m) ≡ speaks (ideal e m)
        by None none = agree_steady (ideal e m) none
        by (Some silence) detected = agree_kept silence detected m low due

    -- and behind it
    pub held_next : (next : ℕ) → first ≤ next → comes e speaks next ≡ true → end_of pace r ≤ window_end e next →
        Held (before ++ cut ∷ []) now (waiting_at (end_of pace r) state (ideal e next)) next
    held_next next low it late =
        record {
          active_is = ap (λ was. hears_of e.silence was cut) held.active_is ∙ sym (activity-more e.silence true before cut);
          waiting_is = λ silence detected. if_kept silence detected ∙ elim (cases_lt (ideal e next) (end_of pace r)) [
            | inl begun ↦
                rw (lt-ltb (ideal e next) (end_of pace r) begun, lt-ltb (ideal e next) (end_after pace (length (before ++ cut ∷ []))) (omega (arith, begun, ends)))
                (ap Some (agree next low begun))
            | inr later ↦
                rw (le-ltb (ideal e next) (end_of pace r) later, le-ltb (ideal e next) (end_after pace (length (before ++ cut ∷ []))) (omega (arith, later, ends)))
                (none_kept silence detected next later)
          ];
          comes = it;
          not_over = omega (arith, late, ends);
        }
      where
        ends : end_after pace (length (before ++ cut ∷ [])) ≡ end_of pace r
        ends = ap (end_after pace) (length-append before (cut ∷ []) ∙ ap (λ k. k + 1) long)

        if_kept : (silence : Silence) → e.silence ≡ Some silence → waiting_at (end_of pace r) state (ideal e next) ≡
            (if nat_lt (ideal e next) (end_of pace r) then Some (speaks_in state (ideal e next)) else
            if ideal e next == ideal e (length (range_with_len 0 first)) then waiting else None)
        if_kept silence detected = ap (λ o. if_detected o
            (if nat_lt (ideal e next) (end_of pace r) then Some (speaks_in state (ideal e next)) else
            if ideal e next == ideal e (length (range_with_len 0 first)) then waiting else None) waiting) detected

        none_kept : (silence : Silence) → e.silence ≡ Some silence → (next : ℕ) → end_of pace r ≤ ideal e next →
            (if ideal e next == ideal e (length (range_with_len 0 first)) then waiting else None) ≡ None
        none_kept silence detected next later = elim (cases_eq (ideal e next) (ideal e (length (range_with_len 0 first)))) [
          | inr other ↦ rw (ne_eqb (ideal e next) (ideal e (length (range_with_len 0 first))) other) refl
          | inl same ↦
              let rises : end_after pace r ≤ end_of pace r =
              later_start pace.time (r * pace.len) ((r + 1) * pace.len) (mul-le r pace.len (r + 1) pace.len (omega arith) (omega arith)) in
              rw (eq-eqb (ideal e next) (ideal e (length (range_with_len 0 first))) same)
              (kept_none silence detected (omega (arith, later, same, first_ideal, rises)))
        ]
