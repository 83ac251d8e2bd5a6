-- An entry in a round, one occurrence after another.
use Rattle.std.proofs.Common.{◌≡◌, ℕ, zero, suc, ◌+◌, ◌*◌, ◌<◌, ◌≤◌, nat_le, nat_lt, ◌==◌, ◌&&◌, ◌||◌, Bool, true, false, List, [], ◌∷◌, ◌++◌, length, map, flat_map, Option, Some, None, refl, ap, sym, ◌∙◌, inl, inr, subst, append_assoc, ne_eqb, arith}
use Rattle.std.specs.List.{range_with_len, AllByRecursion}
use Rattle.std.proofs.lemmas.List.{map-append, append-nil}
use Rattle.std.proofs.lemmas.Bool.{cases_lt, cases_Bool, and_right, eqb-true, ltb-false}
use Rattle.us_slots.specs.Times.{start_of}
use Rattle.us_holes.specs.Boards.{Board, fits, first_of}
use Rattle.us_calendar.specs.Entries.{Entry, slots_of}
use Rattle.us_calendar.specs.Occurrences.{Pace, ideal, end_of, is_over, comes, coming}
use Rattle.us_calendar.specs.Settling.{Settlement, SettledEntry, spot, settlement, with_spot, settle_each, settle_entry, closed, told_as}
use Rattle.us_calendar.specs.declared.settled.Settled.{Settled}
use Rattle.us_calendar.specs.Laws.{AreFirst}
use Rattle.us_calendar.specs.Kept.{behind, settle_from}
use Rattle.us_calendar.proofs.IdealLemmas.{HasWindows, ideal-apart, ideal-rises, number-below}
use Rattle.us_calendar.proofs.ComingLemmas.{coming-none, coming-next, coming-all, comes_behind, range-closed}

abbrev pub numbers_of : Entry → List Settlement → List ℕ
numbers_of e settlements = flat_map (closed e) settlements

-- what one occurrence and those behind it come to
abbrev pub then_settle : Pace → ℕ → Entry → Bool → ℕ → Option ℕ → (Board → SettledEntry) → Board → SettledEntry
then_settle pace round e active n found rest board =
    let more : SettledEntry = rest (with_spot e active found board) in
    record { board = more.board; settlements = settlement pace round e active n found ++ more.settlements }

pub settle_each-cons : (pace : Pace) (round : ℕ) (e : Entry) (speaks : ℕ → Bool) (n : ℕ) (ns : List ℕ) (board : Board) →
    settle_each pace round e speaks (n ∷ ns) board ≡
    then_settle pace round e (speaks (ideal e n)) n (spot pace round e (speaks (ideal e n)) n board)
    (settle_each pace round e speaks ns) board
unfolding settle_each
settle_each-cons pace round e speaks n ns board = refl

abbrev pub nothing : Board → SettledEntry
nothing board = record { board = board; settlements = [] }

-- an occurrence that waits changes nothing
abbrev pub Waits : Pace → ℕ → Entry → Bool → Board → ℕ → Type 0
Waits pace round e active board n =
    (spot pace round e active n board ≡ None) × (is_over pace round e n ≡ false)

settlements_waiting : (pace : Pace) (round : ℕ) (e : Entry) (active : Bool) (n : ℕ) → is_over pace round e n ≡ false →
    settlement pace round e active n None ≡ []
settlements_waiting pace round e active n over = rw over refl

settle-idle : (pace : Pace) (round : ℕ) (e : Entry) (speaks : ℕ → Bool) (ns : List ℕ) (board : Board) →
    AllByRecursion (λ m. Waits pace round e (speaks (ideal e m)) board m) ns →
    settle_each pace round e speaks ns board ≡ nothing board
unfolding settle_each
settle-idle pace round e speaks [] board all = refl
settle-idle pace round e speaks (n ∷ ns) board all =
    let active : Bool = speaks (ideal e n) in
    settle_each-cons pace round e speaks n ns board ∙ ap
    (λ found. then_settle pace round e active n found (settle_each pace round e speaks ns) board) all.0.0 ∙ ap
    (λ (rest : SettledEntry). record { board = rest.board; settlements = settlement pace round e active n None ++ rest.settlements })
    (settle-idle pace round e speaks ns board all.1) ∙ ap
    (λ settlements. record { board = board; settlements = settlements ++ [] })
    (settlements_waiting pace round e active n all.0.1)

-- The next occurrence is settled first,
pub settle-next : (pace : Pace) (round : ℕ) (e : Entry) (speaks : ℕ → Bool) (n : ℕ) (board : Board) → HasWindows e →
    comes e speaks n ≡ true → ideal e n < end_of pace round →
    settle_from pace round e speaks n board ≡
    then_settle pace round e (speaks (ideal e n)) n (spot pace round e (speaks (ideal e n)) n board)
    (settle_from pace round e speaks (behind e (speaks (ideal e n)) n)) board
unfolding settle_entry
settle-next pace round e speaks n board is it h =
    ap (λ ns. settle_each pace round e speaks ns board) (coming-next e speaks (end_of pace round) n is it h) ∙
    settle_each-cons pace round e speaks n
    (coming e speaks (end_of pace round) (range_with_len 0 (behind e (speaks (ideal e n)) n))) board

-- where it is due at all,
pub settle-none : (pace : Pace) (round : ℕ) (e : Entry) (speaks : ℕ → Bool) (n : ℕ) (board : Board) → HasWindows e →
    end_of pace round ≤ ideal e n → settle_from pace round e speaks n board ≡ nothing board
unfolding settle_entry settle_each
settle-none pace round e speaks n board is h =
    ap (λ ns. settle_each pace round e speaks ns board) (coming-none e speaks (end_of pace round) n is h)

-- and if it waits, so do all behind it: those of its interval have its window and are of its kind, and others are due later.
abbrev WaitsFrom : Pace → ℕ → Entry → (ℕ → Bool) → Board → ℕ → Type 0
WaitsFrom pace round e speaks board at =
    (first_of (λ i. (nat_le at (start_of pace.time (round * pace.len + i))
    && nat_le (start_of pace.time (round * pace.len + i)) (at + e.jitter)) && fits board (slots_of e (speaks at)) i) 0
    pace.len ≡ None)
    × (nat_lt (at + e.jitter) (end_of pace round) ≡ false)

pub wait_too : (pace : Pace) (round : ℕ) (e : Entry) (speaks : ℕ → Bool) (n m : ℕ) (board : Board) → HasWindows e →
    Waits pace round e (speaks (ideal e n)) board n → n ≤ m → ideal e m < end_of pace round →
    Waits pace round e (speaks (ideal e m)) board m
wait_too pace round e speaks n m board is waits after before = elim (ideal-apart e n m is after) [
  | inl same ↦ subst (WaitsFrom pace round e speaks board) (sym same) waits
  | inr later ↦
      let ends = ltb-false (ideal e n + e.jitter) (end_of pace round) waits.1 in
      absurd (omega (arith, later, before, is.jitter, ends))
]

all_wait : (pace : Pace) (round : ℕ) (e : Entry) (speaks : ℕ → Bool) (n : ℕ) (board : Board) (ns : List ℕ) →
    HasWindows e → Waits pace round e (speaks (ideal e n)) board n →
    AllByRecursion (λ m. (n ≤ m) × (ideal e m < end_of pace round)) ns →
    AllByRecursion (λ m. Waits pace round e (speaks (ideal e m)) board m) ns
all_wait pace round e speaks n board [] is waits all = tt
all_wait pace round e speaks n board (m ∷ ns) is waits all = (
  wait_too pace round e speaks n m board is waits all.0.0 all.0.1,
  all_wait pace round e speaks n board ns is waits all.1,
)

pub settle-waits : (pace : Pace) (round : ℕ) (e : Entry) (speaks : ℕ → Bool) (n : ℕ) (board : Board) → HasWindows e →
    Waits pace round e (speaks (ideal e n)) board n → settle_from pace round e speaks n board ≡ nothing board
unfolding settle_entry
settle-waits pace round e speaks n board is waits =
    settle-idle pace round e speaks (coming e speaks (end_of pace round) (range_with_len 0 n)) board
    (all_wait pace round e speaks n board (coming e speaks (end_of pace round) (range_with_len 0 n)) is waits
    (coming-all e speaks (end_of pace round) n))

-- where one occurrence is settled, its numbers follow those before it
settled_then : (e : Entry) (n : ℕ) (active : Bool) (found : Option ℕ) (ms more : List Settlement) →
    ms ≡ record { number = n; active = active; start = found } ∷ [] →
    range_with_len 0 n ++ numbers_of e (ms ++ more) ≡ range_with_len 0 (behind e active n) ++ numbers_of e more
settled_then e n active found ms more one =
    let m : Settlement = record { number = n; active = active; start = found } in
    ap (λ all. range_with_len 0 n ++ numbers_of e (all ++ more)) one ∙
    sym (append_assoc (range_with_len 0 n) (closed e m) (numbers_of e more)) ∙
    ap (λ ns. ns ++ numbers_of e more) (range-closed e m n refl)

-- Settling in a loop.

-- what is settled up to occurrence `n`, and what is left to settle from there, lead to what settling from the first
-- one on comes to
pub record Reached (pace : Pace) (round : ℕ) (e : Entry) (speaks : ℕ → Bool) (first : ℕ) (before : Board)
    (told_before : List Settled) (n : ℕ) (board : Board) (told : List Settled) : Type 0 where
  pub len : length board.cells ≡ length before.cells
  pub comes : comes e speaks n ≡ true
  pub same_board :
      (settle_from pace round e speaks n board).board ≡ (settle_from pace round e speaks first before).board
  pub numbers :
      range_with_len 0 n ++ numbers_of e (settle_from pace round e speaks n board).settlements ≡
      range_with_len 0 first ++ numbers_of e (settle_from pace round e speaks first before).settlements
  pub same_told :
      told ++ map (told_as e) (settle_from pace round e speaks n board).settlements ≡
      told_before ++ map (told_as e) (settle_from pace round e speaks first before).settlements

module _ (pace : Pace) (round : ℕ) (e : Entry) (speaks : ℕ → Bool) (first : ℕ) (before : Board)
    (told_before : List Settled) (n : ℕ) (board : Board) (told : List Settled) where
  pub reached-next : (active : Bool) (now : Board) (told_now : List Settled) →
      Reached pace round e speaks first before told_before n board told → HasWindows e → active ≡ speaks (ideal e n) →
      ideal e n < end_of pace round → now ≡ with_spot e active (spot pace round e active n board) board →
      length now.cells ≡ length board.cells → settlement pace round e active n (spot pace round e active n board) ≡
      record { number = n; active = active; start = spot pace round e active n board } ∷ [] →
      told_now ≡ told ++ map (told_as e) (settlement pace round e active n (spot pace round e active n board)) →
      Reached pace round e speaks first before told_before (behind e active n) now told_now
  reached-next active now told_now r is active_is due now_is len one told_is =
      let found : Option ℕ = spot pace round e active n board in
      let then : ℕ = behind e active n in
      let rest : SettledEntry = settle_from pace round e speaks then (with_spot e active found board) in
      let same : settle_from pace round e speaks then now ≡ rest = ap (settle_from pace round e speaks then) now_is in
      let step : settle_from pace round e speaks n board ≡
      then_settle pace round e active n found (settle_from pace round e speaks then) board =
      settle-next pace round e speaks n board is r.comes due ∙ ap
      (λ b. then_settle pace round e b n (spot pace round e b n board) (settle_from pace round e speaks (behind e b n)) board)
      (sym active_is) in
      record {
        len = len ∙ r.len;
        comes = ap (λ b. comes e speaks (behind e b n)) active_is ∙ comes_behind e speaks n is r.comes;
        same_board = ap (λ o. o.board) same ∙ sym (ap (λ o. o.board) step) ∙ r.same_board;
        numbers =
            ap (λ o. range_with_len 0 then ++ numbers_of e o.settlements) same ∙
            sym (settled_then e n active found (settlement pace round e active n found) rest.settlements one) ∙
            ap (λ o. range_with_len 0 n ++ numbers_of e o.settlements) (sym step) ∙ r.numbers;
        same_told =
            ap (λ o. told_now ++ map (told_as e) o.settlements) same ∙
            ap (λ ts. ts ++ map (told_as e) rest.settlements) told_is ∙
            append_assoc told (map (told_as e) (settlement pace round e active n found))
            (map (told_as e) rest.settlements) ∙
            ap (λ ts. told ++ ts) (sym (map-append (told_as e) (settlement pace round e active n found) rest.settlements)) ∙
            ap (λ o. told ++ map (told_as e) o.settlements) (sym step) ∙ r.same_told;
      }

  module _ (r : Reached pace round e speaks first before told_before n board told)
      (last : settle_from pace round e speaks n board ≡ nothing board) where
    pub last_board : board ≡ (settle_from pace round e speaks first before).board
    last_board = sym (ap (λ o. o.board) last) ∙ r.same_board

    pub last_numbers :
        range_with_len 0 n ≡
        range_with_len 0 first ++ numbers_of e (settle_from pace round e speaks first before).settlements
    last_numbers =
        sym (append-nil (range_with_len 0 n)) ∙
        sym (ap (λ o. range_with_len 0 n ++ numbers_of e o.settlements) last) ∙ r.numbers

    pub last_told : told ≡ told_before ++ map (told_as e) (settle_from pace round e speaks first before).settlements
    last_told = sym (append-nil told) ∙ sym (ap (λ o. told ++ map (told_as e) o.settlements) last) ∙ r.same_told

-- an occurrence that is ideal behind the round, behind one that isn't, is the first of its interval
pub begins_later : (active : Bool) (at time k end : ℕ) → at < end → end ≤ time →
    ((active && (time == at)) || (k == 0)) ≡ true → k ≡ 0
begins_later active at time k end early late it =
    let apart : (time == at) ≡ false = ne_eqb time at (λ same. omega (arith, same, early, late)) in
    let out : (active && (time == at)) ≡ false = and_right active (time == at) apart in
    let first : (k == 0) ≡ true = rw out at it in
    eqb-true k 0 first

-- where an occurrence waits, board and list stand as they stood
module _ (pace : Pace) (round : ℕ) (e : Entry) (active : Bool) (n : ℕ) (board now : Board) (told told_now : List Settled)
    (waits : Waits pace round e active board n)
    (now_is : now ≡ with_spot e active (spot pace round e active n board) board)
    (told_is : told_now ≡ told ++ map (told_as e) (settlement pace round e active n (spot pace round e active n board))) where
  pub stands : now ≡ board
  stands = now_is ∙ ap (λ found. with_spot e active found board) waits.0

  pub stands_told : told_now ≡ told
  stands_told =
      told_is ∙ ap (λ found. told ++ map (told_as e) (settlement pace round e active n found)) waits.0 ∙
      ap (λ settlements. told ++ map (told_as e) settlements) (settlements_waiting pace round e active n waits.1) ∙
      append-nil told

-- The first occurrences stay the first ones.

pub numbers_on : (pace : Pace) (round : ℕ) (e : Entry) (speaks : ℕ → Bool) (n : ℕ) (board : Board) (found : Option ℕ) →
    HasWindows e → comes e speaks n ≡ true → ideal e n < end_of pace round →
    spot pace round e (speaks (ideal e n)) n board ≡ found →
    settlement pace round e (speaks (ideal e n)) n found ≡
    record { number = n; active = speaks (ideal e n); start = found } ∷ [] →
    range_with_len 0 n ++ numbers_of e (settle_from pace round e speaks n board).settlements ≡
    range_with_len 0 (behind e (speaks (ideal e n)) n) ++ numbers_of e (settle_from pace round e speaks
    (behind e (speaks (ideal e n)) n) (with_spot e (speaks (ideal e n)) found board)).settlements
numbers_on pace round e speaks n board found is it due found_is one =
    let active : Bool = speaks (ideal e n) in
    let rest : SettledEntry = settle_from pace round e speaks (behind e active n) (with_spot e active found board) in
    let step = settle-next pace round e speaks n board is it due ∙
    ap (λ f. then_settle pace round e active n f (settle_from pace round e speaks (behind e active n)) board) found_is in
    ap (λ o. range_with_len 0 n ++ numbers_of e o.settlements) step ∙
    settled_then e n active found (settlement pace round e active n found) rest.settlements one

pub stop_here : (pace : Pace) (round : ℕ) (e : Entry) (speaks : ℕ → Bool) (n : ℕ) (board : Board) →
    settle_from pace round e speaks n board ≡ nothing board →
    range_with_len 0 n ++ numbers_of e (settle_from pace round e speaks n board).settlements ≡ range_with_len 0 n
stop_here pace round e speaks n board last =
    ap (λ o. range_with_len 0 n ++ numbers_of e o.settlements) last ∙ append-nil (range_with_len 0 n)

-- the windows of the next one aren't over, so other intervals begin later
pub first_of_all : (time : ℕ) (e : Entry) (speaks : ℕ → Bool) (n : ℕ) → HasWindows e → comes e speaks n ≡ true →
    time ≤ ideal e n + e.jitter → (settled : List ℕ) → settled ≡ range_with_len 0 n → AreFirst time e speaks settled n
first_of_all time e speaks n is it late settled first = record {
  first = first;
  comes = it;
  not_over = late;
  later = λ m after. elim (cases_lt m n) [
    | inl before ↦ let rises = ideal-rises e m n is (omega (arith, before)) in absurd (omega (arith, rises, after))
    | inr from ↦ elim (ideal-apart e n m is from) [
      | inl same ↦ absurd (omega (arith, same, after))
      | inr apart ↦ omega (arith, apart, late, is.jitter)
    ]
  ];
}

abbrev Ones : Pace → ℕ → Entry → (ℕ → Bool) → ℕ → Board → Type 0
Ones pace round e speaks n board =
    (more : ℕ) × (n ≤ more) × AreFirst (end_of pace round) e speaks
    (range_with_len 0 n ++ numbers_of e (settle_from pace round e speaks n board).settlements) more

ones_stop : (pace : Pace) (round : ℕ) (e : Entry) (speaks : ℕ → Bool) (n : ℕ) (board : Board) → HasWindows e →
    comes e speaks n ≡ true → end_of pace round ≤ ideal e n + e.jitter →
    settle_from pace round e speaks n board ≡ nothing board → Ones pace round e speaks n board
ones_stop pace round e speaks n board is it late last = (
  n,
  omega arith,
  first_of_all (end_of pace round) e speaks n is it late
      (range_with_len 0 n ++ numbers_of e (settle_from pace round e speaks n board).settlements)
      (stop_here pace round e speaks n board last),
)

pub first_ones : (pace : Pace) (round : ℕ) (e : Entry) (speaks : ℕ → Bool) (left n : ℕ) (board : Board) → HasWindows e →
    comes e speaks n ≡ true → end_of pace round * e.grants ≤ n + left → Ones pace round e speaks n board
first_ones pace round e speaks zero n board is it all = elim (cases_lt (ideal e n) (end_of pace round)) [
  | inl due ↦ let below = number-below e n (end_of pace round) is due in absurd (omega (arith, below, all))
  | inr late ↦
      ones_stop pace round e speaks n board is it (omega (arith, late)) (settle-none pace round e speaks n board is late)
]
first_ones pace round e speaks (suc left) n board is it all = elim (cases_lt (ideal e n) (end_of pace round)) [
  | inr late ↦
      ones_stop pace round e speaks n board is it (omega (arith, late)) (settle-none pace round e speaks n board is late)
  | inl due ↦ by due (spot pace round e (speaks (ideal e n)) n board) refl (λ next. first_ones pace round e speaks left
      (behind e (speaks (ideal e n)) n) next is (comes_behind e speaks n is it) (omega (arith, all)))
]
  where
    on : ideal e n < end_of pace round → (found : Option ℕ) →
        spot pace round e (speaks (ideal e n)) n board ≡ found →
        settlement pace round e (speaks (ideal e n)) n found ≡
        record { number = n; active = speaks (ideal e n); start = found } ∷ [] →
        Ones pace round e speaks (behind e (speaks (ideal e n)) n) (with_spot e (speaks (ideal e n)) found board) →
        Ones pace round e speaks n board
    on due found found_is one more = (
      more.0,
      (let low = more.1 in omega (arith, low)),
      subst (λ ns. AreFirst (end_of pace round) e speaks ns more.0)
          (sym (numbers_on pace round e speaks n board found is it due found_is one)) more.2,
    )

    by : ideal e n < end_of pace round → (found : Option ℕ) → spot pace round e (speaks (ideal e n)) n board ≡ found →
        ((next : Board) → Ones pace round e speaks (behind e (speaks (ideal e n)) n) next) →
        Ones pace round e speaks n board
    by due (Some at) found rest =
        on due (Some at) found refl (rest (with_spot e (speaks (ideal e n)) (Some at) board))
    by due None found rest = elim (cases_Bool (is_over pace round e n)) [
      | inl over ↦ on due None found (rw over refl) (rest board)
      | inr open_yet ↦
          ones_stop pace round e speaks n board is it
          (ltb-false (ideal e n + e.jitter) (end_of pace round) open_yet)
          (settle-waits pace round e speaks n board is (found, open_yet))
    ]
