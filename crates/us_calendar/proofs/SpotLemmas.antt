-- Where an occurrence is granted: its window as minislots of the MAP, and the board's answer there.
use Rattle.std.proofs.Common.{◌≡◌, ℕ, ◌+◌, ◌*◌, ◌-◌, ◌/◌, ◌<◌, ◌≤◌, min, nat_le, ◌&&◌, Bool, true, false, Some, None, ap, ap₂, sym, ◌∙◌, inl, inr, arith}
use Rattle.std.proofs.lemmas.Bool.{cases_Bool, and_from, and_right, and_parts, leb-true, le-leb, false_from_ne_true, le-ltb}
use Rattle.std.specs.Int.{div_ceil}
use Rattle.std.proofs.lemmas.Nat.{mul-le, pow_pos}
use Rattle.us_slots.specs.Times.{Timing, minislot_ticks, start_of}
use Rattle.us_slots.specs.Windows.{StartsWithin}
use Rattle.us_slots.proofs.RoundingLemmas.{ceil-fits, ceil-least, floor-fits, floor-most}
use Rattle.us_holes.specs.Boards.{Board, is_full, is_idle_at, fits}
use Rattle.us_holes.specs.Placements.{IsPlacedAt, HasNoRoom}
use Rattle.us_holes.proofs.IdleLemmas.{first_of-least, first_of-none}
use Rattle.us_holes.proofs.FitLemmas.{fits-held}
use Rattle.us_calendar.specs.Entries.{Entry, slots_of}
use Rattle.us_calendar.specs.Occurrences.{Pace, ideal, starts_within}
use Rattle.us_calendar.specs.Settling.{spot}
use Rattle.us_calendar.specs.declared.occurrences.Occurrence.{Occurrence}
use Rattle.us_calendar.specs.Kept.{IsTimed, number_of}
use Rattle.us_calendar.proofs.TimedLemmas.{ideal_is}

-- the window

false_if : (b : Bool) → (b ≡ true → ⊥) → b ≡ false
false_if b h = false_from_ne_true b (λ t. h t)

pub later_start : (time : Timing) (i j : ℕ) → i ≤ j → start_of time i ≤ start_of time j
later_start time i j h =
    let product : i * minislot_ticks time ≤ j * minislot_ticks time =
    mul-le i (minislot_ticks time) j (minislot_ticks time) h (omega arith) in
    omega arith

within : (time : Timing) (e : Entry) (n i : ℕ) → starts_within time e n i ≡ true →
    StartsWithin time (ideal e n) e.jitter i
within time e n i h =
    let parts = and_parts (nat_le (ideal e n) (start_of time i)) (nat_le (start_of time i) (ideal e n + e.jitter)) h in
    (leb-true (ideal e n) (start_of time i) parts.0, leb-true (start_of time i) (ideal e n + e.jitter) parts.1)

pub none-within : (time : Timing) (e : Entry) (n i : ℕ) → ¬ StartsWithin time (ideal e n) e.jitter i →
    starts_within time e n i ≡ false
none-within time e n i h = false_if (starts_within time e n i) (λ t. h (within time e n i t))

-- Its minislots in a round's MAP: the ideal time in minislots behind the round's begin, rounded up, and the latest time,
-- rounded down.

start_at : (time : Timing) (round len at begin minislot : ℕ) → begin ≡ start_of time (round * len) →
    minislot ≡ 25 * minislot_ticks time → start_of time (round * len + at) ≡ begin + at * minislot
start_at time round len at begin minislot begins long = rw (begins, long) (grind arith)

same_le : (a b m n : ℕ) → (a ≤ b → m ≤ n) → (m ≤ n → a ≤ b) → nat_le a b ≡ nat_le m n
same_le a b m n to from = elim (cases_Bool (nat_le m n)) [
  | inl t ↦ le-leb a b (from (leb-true m n t)) ∙ sym t
  | inr f ↦ false_if (nat_le a b) (λ t.
      let never : true ≡ false = sym (le-leb m n (to (leb-true a b t))) ∙ f in absurd cc) ∙ sym f
]

not_before : (ideal begin minislot at : ℕ) → 0 < minislot →
    nat_le ideal (begin + at * minislot) ≡ nat_le (div_ceil (ideal - begin) minislot) at
not_before ideal begin minislot at some =
    same_le ideal (begin + at * minislot) (div_ceil (ideal - begin) minislot) at
    (λ h. ceil-least (ideal - begin) minislot at some (omega (arith, h)))
    (λ h. let fits = ceil-fits (ideal - begin) minislot at some h in omega (arith, fits))

not_behind : (last begin minislot len at : ℕ) → 0 < minislot → begin ≤ last → at < len →
    nat_le (begin + at * minislot) last ≡ nat_le at (min ((last - begin) / minislot) (len - 1))
not_behind last begin minislot len at some after inside =
    same_le (begin + at * minislot) last at (min ((last - begin) / minislot) (len - 1))
    (λ h. let most = floor-most (last - begin) minislot at some (omega (arith, h)) in omega (arith, most, inside))
    (λ h. let fits = floor-fits (last - begin) minislot at (omega (arith, h)) in omega (arith, fits, after))

module _ (pace : Pace) (round begin minislot : ℕ) (e : Entry) (o : Occurrence) (is : IsTimed e o)
    (begins : begin ≡ start_of pace.time (round * pace.len)) (long : minislot ≡ 25 * minislot_ticks pace.time)
    (len jitter behind from to : ℕ) (len_is : len ≡ pace.len) (jitter_is : jitter ≡ e.jitter) (after : begin ≤ o.ideal + jitter)
    (behind_is : behind ≡ o.ideal - begin) (from_is : from ≡ div_ceil behind minislot)
    (to_is : to ≡ min ((o.ideal + jitter - begin) / minislot) (len - 1)) where
  pub window_in : (at : ℕ) → at < pace.len →
      starts_within pace.time e (number_of e o) (round * pace.len + at) ≡ (nat_le from at && nat_le at to)
  window_in at inside =
      let some : 0 < minislot = omega (arith, long, pow_pos pace.time.minislot_log2) in
      ap₂ (λ ideal start. nat_le ideal start && nat_le start (ideal + e.jitter)) (ideal_is e o is)
      (start_at pace.time round pace.len at begin minislot begins long) ∙
      ap (λ j. nat_le o.ideal (begin + at * minislot) && nat_le (begin + at * minislot) (o.ideal + j)) (sym jitter_is) ∙
      ap₂ (λ a b. a && b) (not_before o.ideal begin minislot at some)
      (not_behind (o.ideal + jitter) begin minislot pace.len at some after inside) ∙
      ap₂ (λ b l. nat_le (div_ceil b minislot) at && nat_le at (min ((o.ideal + jitter - begin) / minislot) (l - 1)))
      (sym behind_is) (sym len_is) ∙ ap₂ (λ a b. nat_le a at && nat_le at b) (sym from_is) (sym to_is)

  pub window_none : to < from → (at : ℕ) → at < pace.len →
      starts_within pace.time e (number_of e o) (round * pace.len + at) ≡ false
  window_none empty at inside =
      window_in at inside ∙ false_if (nat_le from at && nat_le at to) (λ t.
      let parts = and_parts (nat_le from at) (nat_le at to) t in
      absurd (omega (arith, empty, leb-true from at parts.0, leb-true at to parts.1)))

-- none where the window ends before the round begins
pub window_past : (pace : Pace) (round begin : ℕ) (e : Entry) (o : Occurrence) (jitter : ℕ) → IsTimed e o →
    begin ≡ start_of pace.time (round * pace.len) → jitter ≡ e.jitter → o.ideal + jitter < begin → (at : ℕ) →
    starts_within pace.time e (number_of e o) (round * pace.len + at) ≡ false
window_past pace round begin e o jitter is begins jitter_is past at =
    let later = later_start pace.time (round * pace.len) (round * pace.len + at) (omega arith) in
    none-within pace.time e (number_of e o) (round * pace.len + at)
    (λ within. omega (arith, within.1, ideal_is e o is, later, begins, jitter_is, past))

-- the answer

abbrev pub IsWindow : Pace → ℕ → Entry → ℕ → ℕ → ℕ → Type 0
IsWindow pace round e n from to = (at : ℕ) → at < pace.len →
    starts_within pace.time e n (round * pace.len + at) ≡ (nat_le from at && nat_le at to)

abbrev passes : Pace → ℕ → Entry → Bool → ℕ → Board → ℕ → Bool
passes pace round e active n board at = starts_within pace.time e n (round * pace.len + at) && fits board (slots_of e active) at

pub spot-outside : (pace : Pace) (round : ℕ) (e : Entry) (active : Bool) (n : ℕ) (board : Board) →
    ((at : ℕ) → at < pace.len → starts_within pace.time e n (round * pace.len + at) ≡ false) →
    None ≡ spot pace round e active n board
spot-outside pace round e active n board none =
    sym (first_of-none (passes pace round e active n board) 0 pace.len
    (λ at _ inside. ap (λ b. b && fits board (slots_of e active) at) (none at (omega (arith, inside)))))

pub spot-full : (pace : Pace) (round : ℕ) (e : Entry) (active : Bool) (n : ℕ) (board : Board) → is_full board ≡ true →
    None ≡ spot pace round e active n board
spot-full pace round e active n board full =
    sym (first_of-none (passes pace round e active n board) 0 pace.len (λ at _ inside.
    and_right (starts_within pace.time e n (round * pace.len + at)) (fits board (slots_of e active) at)
    (ap (λ b. b && is_idle_at board.cells (slots_of e active) at) (le-ltb board.standing 100 (leb-true 100 board.standing full)))))

missed_at : (pace : Pace) (round : ℕ) (e : Entry) (active : Bool) (n from to at : ℕ) (board : Board) →
    IsWindow pace round e n from to → at < pace.len → (from ≤ at → at ≤ to → fits board (slots_of e active) at ≡ false) →
    passes pace round e active n board at ≡ false
missed_at pace round e active n from to at board window inside none =
    false_if (passes pace round e active n board at) (λ t.
    let parts = and_parts (starts_within pace.time e n (round * pace.len + at)) (fits board (slots_of e active) at) t in
    let ends = and_parts (nat_le from at) (nat_le at to) (sym (window at inside) ∙ parts.0) in
    let never : true ≡ false = sym parts.1 ∙ none (leb-true from at ends.0) (leb-true at to ends.1) in absurd cc)

pub spot-none : (pace : Pace) (round : ℕ) (e : Entry) (active : Bool) (n from to : ℕ) (board : Board) →
    IsWindow pace round e n from to → HasNoRoom board from to (slots_of e active) → None ≡ spot pace round e active n board
spot-none pace round e active n from to board window room =
    sym (first_of-none (passes pace round e active n board) 0 pace.len (λ at _ inside.
    missed_at pace round e active n from to at board window (omega (arith, inside))
    (λ low high. fits-held board (slots_of e active) at (room.none at low high))))

pub spot-at : (pace : Pace) (round : ℕ) (e : Entry) (active : Bool) (n from to start : ℕ) (board : Board) →
    IsWindow pace round e n from to → to < pace.len → IsPlacedAt board from to (slots_of e active) start →
    Some start ≡ spot pace round e active n board
spot-at pace round e active n from to start board window inside placed =
    let least = placed.least in
    let in_window = window start (omega (arith, least.below, inside)) ∙ and_from (nat_le from start) (nat_le start to)
    (le-leb from start least.above) (le-leb start to least.below) in
    sym (first_of-least (passes pace round e active n board) 0 pace.len start
    (and_from (starts_within pace.time e n (round * pace.len + start)) (fits board (slots_of e active) start) in_window least.passing)
    (omega arith) (omega (arith, least.below, inside))
    (λ at _ earlier. missed_at pace round e active n from to at board window (omega (arith, earlier, least.below, inside))
    (λ low high. least.first at low earlier)))

pub ruleset spot_facts = (spot-at, spot-none, spot-full, spot-outside)
