-- The state of an entry: what settling makes of it, and when it is due next.
use Rattle.std.proofs.Common.{◌≡◌, ℕ, ◌+◌, ◌-◌, ◌*◌, ◌/◌, ◌%◌, ◌<◌, ◌≤◌, ◌⊎◌, ◌==◌, ◌||◌, nat_lt, Bool, true, false, is_some, if◌then◌else◌, List, ◌++◌, flat_map, Option, Some, None, unwrap_or, max, length, refl, ap, ap₂, sym, ◌∙◌, inl, inr, lt-ltb, le-ltb, eq-eqb, arith}
use Rattle.std.specs.List.{range_with_len}
use Rattle.std.proofs.lemmas.Bool.{cases_lt, cases_Bool}
use Rattle.std.proofs.lemmas.List.FromFn.{length-range_with_len}
use Rattle.std.proofs.lemmas.Nat.{mul-le, pow_pos}
use Rattle.std.proofs.Math.Nat.{div-mul-le_self}
use Rattle.us_slots.specs.Times.{minislot_ticks, start_of}
use Rattle.us_holes.specs.Boards.{Board}
use Rattle.us_calendar.specs.Entries.{Entry}
use Rattle.us_calendar.specs.Occurrences.{Pace, ideal, end_of, comes}
use Rattle.us_calendar.specs.Settling.{EntryState, Settlement, kind_at, if_detected, speaks_in, closed, waiting_at, settle_state, after_settling}
use Rattle.us_calendar.specs.declared.silences.Silence.{Silence}
use Rattle.us_calendar.specs.declared.interval_kinds.Kinds.{Kinds}
use Rattle.us_calendar.specs.declared.occurrences.Occurrence.{Occurrence}
use Rattle.us_calendar.specs.Kept.{IsEntryState, IsNext, IsPace, IsQuiet, IsTimed, always_active, kept_at, number_of, settle_from, speaks_of, state_from, waits_active}
use Rattle.us_calendar.specs.Agendas.{due_at}
use Rattle.us_calendar.proofs.HeardLemmas.{some_of}
use Rattle.us_calendar.proofs.ActivityLemmas.{settle_same}
use Rattle.us_calendar.proofs.TimedLemmas.{ideal_is, number_most, place_is}

pub state_is : (e : Entry) (next : Occurrence) (active : Bool) (waiting : Option Bool) → IsNext e next waiting →
    IsEntryState (state_from e active waiting (number_of e next))
state_is e next active waiting is =
    let long = length-range_with_len 0 (number_of e next) in
    record {
      entry = is.timed.entry;
      settled = ap (range_with_len 0) (sym long);
      few = omega (arith, long, number_most e next is.timed);
      next =
          ap (λ n. waits_active e.silence waiting || (n % e.grants == 0)) long ∙
          ap (λ k. waits_active e.silence waiting || (k == 0)) (place_is e next is.timed) ∙ is.begins;
    }

-- before the first occurrence nothing is settled
pub none_settled : (n : ℕ) → n ≡ 0 → range_with_len 0 n ≡ range_with_len 0 0
none_settled n is = ap (range_with_len 0) is

-- how long a round is, by the bounds of any
pub round_long : (pace : Pace) (round begin end : ℕ) → begin ≡ start_of pace.time (round * pace.len) →
    end ≡ end_of pace round → end - begin ≡ end_of pace 0
round_long pace round begin end begins ends =
    let next : end_of pace round ≡ start_of pace.time (round * pace.len) + end_of pace 0 = grind arith in
    omega (arith, begins, ends, next)

-- a round that ends in a run has a number of 32 bits
pub round_early : (pace : Pace) (round : ℕ) → IsPace pace →
    (round + 1) * (pace.len * minislot_ticks pace.time) ≤ 67108864 → round + 1 ≤ 67108864
round_early pace round is ends =
    let ticks = pow_pos pace.time.minislot_log2 in
    let long : 1 * 1 ≤ pace.len * minislot_ticks pace.time =
    mul-le 1 1 pace.len (minislot_ticks pace.time) is.len (omega (arith, ticks)) in
    let all : (round + 1) * 1 ≤ (round + 1) * (pace.len * minislot_ticks pace.time) =
    mul-le (round + 1) 1 (round + 1) (pace.len * minislot_ticks pace.time) (omega arith) (omega (arith, long)) in
    omega (arith, all, ends)

-- nothing is due in a round before
pub quiet_before : (pace : Pace) (state : EntryState) (round : ℕ) → IsEntryState state → round < due_at pace state →
    IsQuiet pace round state
quiet_before pace state round is before =
    let e : Entry = state.entry in
    let n : ℕ = length state.settled in
    let long : ℕ = end_of pace 0 in
    let rounds : ℕ = ideal e n / long in
    let product : (round + 1) * long ≤ rounds * long = mul-le (round + 1) long rounds long (omega (arith, before)) (omega arith) in
    let whole : rounds * long ≤ ideal e n = div-mul-le_self (ideal e n) long in
    let same : (round + 1) * end_of pace 0 ≡ end_of pace round = grind arith in
    record { settled = is.settled; entry = is.entry; later = omega (arith, product, whole, same) }

pub next_ideal : (e : Entry) (next : Occurrence) → IsTimed e next →
    ideal e (length (range_with_len 0 (number_of e next))) ≡ next.ideal
next_ideal e next is = ap (ideal e) (length-range_with_len 0 (number_of e next)) ∙ ideal_is e next is

-- the first round that is no earlier and in which the next occurrence is due
module _ (pace : Pace) (state : EntryState) (e : Entry) (next : Occurrence) (active : Bool) (waiting : Option Bool)
    (from long : ℕ) (is : IsNext e next waiting) (state_is : state_from e active waiting (number_of e next) ≡ state)
    (long_is : long ≡ end_of pace 0) where
  pub due_round_is : max from (next.ideal / long) ≡ max from (due_at pace state)
  due_round_is =
      ap₂ (λ t l. max from (t / l)) (sym (next_ideal e next is.timed)) long_is ∙ ap
      (λ r. max from (ideal r.entry (length r.settled) / end_of pace 0)) state_is

or_true : (b : Bool) → (b || true) ≡ true
or_true true = refl
or_true false = refl

-- Where its activity is detected, what is kept tells of what kind an entry's intervals are, and the next occurrence comes;

module _ (e : Entry) (next : Occurrence) (active : Bool) (waiting : Option Bool) (is : IsNext e next waiting)
    (detected : is_some e.silence ≡ true) where
  pub kinds_are : kind_at next.ideal (unwrap_or waiting active) active ≡
      speaks_in (state_from e active waiting (number_of e next))
  kinds_are =
      let has = some_of e.silence detected in
      let by : Option Silence → ℕ → Bool = λ silence time. if_detected silence
      (kind_at (ideal e (length (range_with_len 0 (number_of e next)))) (unwrap_or waiting active) active time) true in
      ap (λ at. kind_at at (unwrap_or waiting active) active) (sym (next_ideal e next is.timed)) ∙
      ap by (sym has.1)

  kept_or : (waiting : Option Bool) (active rest : Bool) → (unwrap_or waiting false || rest) ≡ true →
      (unwrap_or waiting active || rest) ≡ true
  kept_or (Some kept) active rest h = h
  kept_or None active rest h = rw h (or_true active)

  pub next_comes : comes e (kind_at next.ideal (unwrap_or waiting active) active) (number_of e next) ≡ true
  next_comes =
      let has = some_of e.silence detected in
      let begins : (unwrap_or waiting false || (next.k == 0)) ≡ true =
      ap (λ silence. waits_active silence waiting || (next.k == 0)) (sym has.1) ∙ is.begins in
      ap₂ (λ t k. kind_at next.ideal (unwrap_or waiting active) active t || (k == 0)) (ideal_is e next is.timed)
      (place_is e next is.timed) ∙
      rw (eq-eqb next.ideal next.ideal refl) (kept_or waiting active (next.k == 0) begins)

-- else all are active, and any comes.

speaks_always : (time : ℕ) → speaks_of always_active time ≡ true
speaks_always time = elim (cases_Bool (time == 0)) [ inl t ↦ rw t refl | inr f ↦ rw f refl ]

pub any_comes : (e : Entry) (n : ℕ) → comes e (speaks_of always_active) n ≡ true
any_comes e n = ap (λ b. b || (n % e.grants == 0)) (speaks_always (ideal e n))

pub settle_always : (pace : Pace) (round : ℕ) (e : Entry) (active : Bool) (waiting : Option Bool) (n : ℕ) (board : Board) →
    e.silence ≡ None → settle_from pace round e (speaks_of always_active) n board ≡
    settle_state pace round (state_from e active waiting n) board
settle_always pace round e active waiting n board none =
    settle_same pace round e (speaks_of always_active) (speaks_in (state_from e active waiting n)) n board
    (λ m _ _. speaks_always (ideal e m) ∙ sym (ap (λ silence. if_detected silence
    (kind_at (ideal e (length (range_with_len 0 n))) (unwrap_or waiting active) active (ideal e m)) true) none))

pub begins_always : (e : Entry) (next : Occurrence) (waiting : Option Bool) → IsTimed e next → e.silence ≡ None →
    IsNext e next waiting
begins_always e next waiting timed none =
    record { timed = timed; begins = ap (λ silence. waits_active silence waiting || (next.k == 0)) none }

-- And what settling leaves.
module _ (e : Entry) (first next : Occurrence) (active : Bool) (waiting : Option Bool) (end : ℕ) (timed : IsTimed e next)
    (state : EntryState) (settlements : List Settlement)
    (state_is : state_from e active waiting (number_of e first) ≡ state)
    (numbers : range_with_len 0 (number_of e next) ≡ range_with_len 0 (number_of e first) ++ flat_map (closed e) settlements) where
  abbrev old : EntryState
  old = state_from e active waiting (number_of e first)

  settled_then : state_from e active (waiting_at end old next.ideal) (number_of e next) ≡ after_settling end state settlements
  settled_then =
      ap (λ w. state_from e active w (number_of e next)) (ap (waiting_at end old) (sym (next_ideal e next timed))) ∙
      ap (λ settled. record {
        entry = e;
        settled = settled;
        active = active;
        waiting = waiting_at end old (ideal e (length settled));
      }) numbers ∙ ap (λ s. after_settling end s settlements) state_is

  pub state_always : e.silence ≡ None →
      state_from e active waiting (number_of e next) ≡ after_settling end state settlements
  state_always none =
      ap (λ w. state_from e active w (number_of e next)) (sym (ap (λ silence. if_detected silence
      (if nat_lt next.ideal end then Some (speaks_in old next.ideal) else
      if next.ideal == ideal e (length (range_with_len 0 (number_of e first))) then waiting else None) waiting) none)) ∙
      settled_then

  pub state_then : (kinds : Kinds) → IsTimed e first → is_some e.silence ≡ true → kinds.at ≡ first.ideal →
      speaks_of kinds ≡ speaks_in state →
      state_from e active (kept_at kinds waiting end next.ideal) (number_of e next) ≡ after_settling end state settlements
  state_then kinds first_timed detected at_is speaks_is =
      let has = some_of e.silence detected in
      let kept : kept_at kinds waiting end next.ideal ≡ waiting_at end old next.ideal =
      ap₂ (λ (speaks : ℕ → Bool) (at : ℕ).
      if nat_lt next.ideal end then Some (speaks next.ideal) else if next.ideal == at then waiting else None)
      (speaks_is ∙ ap speaks_in (sym state_is)) (at_is ∙ sym (next_ideal e first first_timed)) ∙
      ap (λ silence. if_detected silence
      (if nat_lt next.ideal end then Some (speaks_in old next.ideal) else
      if next.ideal == ideal e (length (range_with_len 0 (number_of e first))) then waiting else None) waiting) (sym has.1) in
      ap (λ w. state_from e active w (number_of e next)) kept ∙ settled_then

module _ (e : Entry) (first next : Occurrence) (kinds : Kinds) (waiting : Option Bool) (end : ℕ)
    (is : IsNext e first waiting) (timed : IsTimed e next) (at_is : kinds.at ≡ first.ideal)
    (detected : is_some e.silence ≡ true) where
  abbrev waits : Option Bool → Bool
  waits w = unwrap_or w false

  as_detected : (w : Option Bool) → waits_active e.silence w ≡ waits w
  as_detected w = ap (λ silence. waits_active silence w) (some_of e.silence detected).1

  pub begins_then : comes e (speaks_of kinds) (number_of e next) ≡ true →
      (end ≤ next.ideal → (next ≡ first) ⊎ (next.k ≡ 0)) →
      IsNext e next (kept_at kinds waiting end next.ideal)
  begins_then it stays = record {
    timed = timed;
    begins = ap (λ b. b || (next.k == 0)) (as_detected (kept_at kinds waiting end next.ideal)) ∙ by;
  }
    where
      was : (waits waiting || (first.k == 0)) ≡ true
      was = ap (λ b. b || (first.k == 0)) (sym (as_detected waiting)) ∙ is.begins

      by : (waits (kept_at kinds waiting end next.ideal) || (next.k == 0)) ≡ true
      by = elim (cases_lt next.ideal end) [
        | inl early ↦
            rw (lt-ltb next.ideal end early)
            (sym (ap₂ (λ t k. speaks_of kinds t || (k == 0)) (ideal_is e next timed) (place_is e next timed)) ∙ it)
        | inr late ↦
            rw (le-ltb next.ideal end late) (elim (stays late) [
              | inl same ↦
                  let time : next.ideal ≡ kinds.at = ap (λ o. o.ideal) same ∙ sym at_is in
                  rw (eq-eqb next.ideal kinds.at time) (ap (λ o. waits waiting || (o.k == 0)) same ∙ was)
              | inr none ↦
                  rw (eq-eqb next.k 0 none) (or_true (waits (if next.ideal == kinds.at then waiting else None)))
            ])
      ]

pub ruleset state_facts = (state_is, none_settled, round_long)
