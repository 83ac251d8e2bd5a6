-- When windows close: those of an entry one after another, so that the first occurrence that is wrong is its first breach.
use Rattle.std.proofs.Common.{◌≡◌, ℕ, ◌+◌, ◌-◌, ◌*◌, ◌/◌, ◌%◌, ◌<◌, ◌^◌, ◌≤◌, ◌==◌, nat_le, ◌||◌, ◌⊎◌, Bool, true, false, List, Some, None, refl, ap, ap₂, sym, subst, ◌∙◌, inl, inr, arith, ltb-true, lt-ltb, le-ltb, eq-eqb, ne_eqb}
use Rattle.std.specs.Prelude.{if◌then◌else◌}
use Rattle.std.proofs.Math.Nat.{div-mul-le_self, div-zero}
use Rattle.std.proofs.lemmas.Bool.{cases_eq, cases_lt, false≢true, lt-leb, and_right, or_right}
use Rattle.std.proofs.lemmas.Nat.{div-add-mod', div-mul-add, le-div, mod-mul-add, mod_below, mul-le, pow_pos}
use Rattle.us_slots.specs.Times.{minislot_ticks, quarters_per_tick, start_of}
use Rattle.us_flows.specs.Lawful.{IsChannel}
use Rattle.us_flows.specs.Tables.{Tables, map_len}
use Rattle.us_flows.specs.declared.channels.Channel.{Channel}
use Rattle.us_calendar.specs.Entries.{Entry}
use Rattle.us_calendar.specs.Occurrences.{ideal, window_end}
use Rattle.us_reports.specs.declared.place.Place.{Place}
use Rattle.us_lawful.specs.Runs.{Run}
use Rattle.us_lawful.specs.CalendarLines.{ChannelEntry, closes, closing_round, round_quarters, speaks_in}
use Rattle.us_reports.specs.Order.{goes_before}
use Rattle.us_reports.specs.Breaches.{IsFirstFailure}
use Rattle.us_map_rules.specs.Failures.{ClosingFails, IsDue, IsFirstWrong, comes_in}
use Rattle.us_map_rules.specs.Naming.{starts_from}

-- Quotients don't fall,
div-rises : (m n k : ℕ) → m ≤ n → m / k ≤ n / k
div-rises m n k up = elim (cases_lt 0 k) [
  | inl some ↦ le-div (m / k) n k some (omega (arith, div-mul-le_self m k))
  | inr none ↦
      let same : k ≡ 0 = omega (arith, none) in
      subst (λ j. m / j ≤ n / j) (sym same) (omega (arith, div-zero m, div-zero n))
]

-- nor do the ends of windows,
window_rises : (e : Entry) (m n : ℕ) → m ≤ n → window_end e m ≤ window_end e n
window_rises e m n up =
    let intervals = div-rises m n e.grants up in
    let ends : m / e.grants * e.interval ≤ n / e.grants * e.interval =
    mul-le (m / e.grants) e.interval (n / e.grants) e.interval intervals (omega arith) in
    omega (arith, ends)

closes_before : (run : Run) (e : Entry) (m n : ℕ) → m ≤ n → closes run e n ≡ true → closes run e m ≡ true
closes_before run e m n up closed =
    let last = ltb-true (window_end e n) (run.rounds * round_quarters run.tables) closed in
    lt-ltb (window_end e m) (run.rounds * round_quarters run.tables) (omega (arith, last, window_rises e m n up))

-- A place of a later round doesn't go before one of the same channel and entry.
no_sooner : (channels : List Channel) (a b : Place) → b.round ≤ a.round → a.channel ≡ b.channel → a.third ≡ b.third →
    goes_before channels a b ≡ false
no_sooner channels a b later channel third = elim (cases_eq a.round b.round) [
  | inl same ↦ rw (eq-eqb a.round b.round same, eq-eqb a.channel b.channel channel)
      (le-ltb a.third b.third (omega (arith, third)))
  | inr other ↦ rw (ne_eqb a.round b.round other) (le-ltb a.round b.round later)
]

-- What is told of a window that doesn't close.
pub is_open : (closed : Bool) (round : ℕ) → None ≡ (if closed then Some round else None) → closed ≡ false
is_open true round is = absurd (cc is)
is_open false round is = refl

module _ (channels : List Channel) (run : Run) (times : ℕ → ℕ) (l : ChannelEntry) (number : ℕ)
    (first : IsFirstWrong (comes_in run l) times number) where
  no_earlier : (p : Place) (fails : ClosingFails run l times p) → number ≤ fails.number
  no_earlier p fails = elim (cases_lt fails.number number) [
    | inl sooner ↦ absurd (fails.wrong (first.before fails.number sooner fails.come))
    | inr later ↦ later
  ]

  -- where the first wrong one is open, none that closes fails
  pub none_closes : closes run l.entry number ≡ false → (p : Place) → ClosingFails run l times p → ⊥
  none_closes out p fails =
      false≢true (sym out ∙ closes_before run l.entry number fails.number (no_earlier p fails) fails.closes)

  -- and where it closes, it is the first breach
  pub first_closes : (at : Place) → closes run l.entry number ≡ true →
      at ≡ record { round = closing_round run.tables l.entry number; channel = l.channel.id; third = l.entry.id } →
      IsFirstFailure channels (ClosingFails run l times) (Some at)
  first_closes at closed is = (
    record { number = number; come = first.comes; closes = closed; place = is; wrong = first.wrong },
    λ p fails. no_sooner channels p at
        (subst (λ q. at.round ≤ q.round) (sym fails.place)
        (subst (λ q. q.round ≤ closing_round run.tables l.entry fails.number) (sym is)
        (div-rises (window_end l.entry number) (window_end l.entry fails.number) (round_quarters run.tables)
        (window_rises l.entry number fails.number (no_earlier p fails)))))
        (ap (λ q. q.channel) fails.place ∙ ap (λ q. q.channel) (sym is))
        (ap (λ q. q.third) fails.place ∙ ap (λ q. q.third) (sym is)),
  )

-- What comes next.

module _ (run : Run) (l : ChannelEntry) (n : ℕ) (some : 1 ≤ l.entry.grants) where
  -- where a number doesn't come, the first of the next interval is due
  pub due_next : (n % l.entry.grants ≡ 0 → ⊥) → speaks_in run l.entry (ideal l.entry n) ≡ false →
      IsDue (comes_in run l) n ((n / l.entry.grants + 1) * l.entry.grants)
  due_next inner silent =
      let g : ℕ = l.entry.grants in
      let i : ℕ = n / g in
      let whole : i * g + n % g ≡ n = div-add-mod' n g in
      let rest : n % g < g = mod_below n g some in
      let place : 0 < n % g = elim (cases_lt 0 (n % g)) [
        | inl is ↦ is
        | inr none ↦ absurd (inner (omega (arith, none)))
      ] in
      let next : (i + 1) * g ≡ i * g + g = omega arith in
      record {
        comes = or_right (speaks_in run l.entry (ideal l.entry ((i + 1) * g))) ((i + 1) * g % g == 0)
            (eq-eqb ((i + 1) * g % g) 0 (ap (λ m. m % g) (omega arith) ∙ mod-mul-add (i + 1) g 0 some));
        later = omega (arith, whole, rest, next);
        none = λ m from low.
            let k : ℕ = m - i * g in
            let place_is : i * g + k ≡ m = omega (arith, from, whole) in
            let inside : k < g = omega (arith, place_is, low, next) in
            let inner : k ≡ 0 → ⊥ = λ is. omega (arith, is, place_is, from, whole, place) in
            ap (λ n. comes_in run l n) (sym place_is)
            ∙ ap₂ (λ q r. speaks_in run l.entry (l.entry.start + q * l.entry.interval) || (r == 0))
            (div-mul-add i g k inside) (mod-mul-add i g k inside)
            ∙ ap (λ b. b || (k == 0)) silent
            ∙ ne_eqb k 0 inner;
      }

-- Where minislots begin.

module _ (t : Tables) (c : Channel) (lawful : IsChannel t c) (round start : ℕ) where
  -- by the round and what lies before them in it,
  pub begins_at : (quarters ticks : ℕ) → quarters ≡ round_quarters t → ticks ≡ minislot_ticks c.bursts.time →
      round * quarters + quarters_per_tick * (start * ticks) ≡ start_of c.bursts.time (round * map_len t c + start)
  begins_at quarters ticks quarters_is ticks_is =
      let per : ℕ = minislot_ticks c.bursts.time in
      let spread : round * (quarters_per_tick * (map_len t c * per)) + quarters_per_tick * (start * per)
      ≡ quarters_per_tick * ((round * map_len t c + start) * per) = omega arith in
      ap₂ (λ q k. round * q + quarters_per_tick * (start * k))
      (quarters_is ∙ ap (λ all. quarters_per_tick * all) (sym lawful.whole)) ticks_is
      ∙ spread

  abbrev pub begins : ℕ
  begins = start_of c.bursts.time (round * map_len t c + start)

  begins_is : round * round_quarters t + quarters_per_tick * (start * minislot_ticks c.bursts.time) ≡ begins
  begins_is = begins_at (round_quarters t) (minislot_ticks c.bursts.time) refl refl

  -- so that 64 bits tell it where neither number is great,
  pub begins_soon : t.round_ticks ≤ 4096 → round < 2 ^ 46 → start < 2 ^ 46 → begins < 2 ^ 64
  begins_soon few early near =
      let per : ℕ = minislot_ticks c.bursts.time in
      let inside : 1 * per ≤ map_len t c * per = mul-le 1 per (map_len t c) per lawful.len.0 (omega arith) in
      let rounds : round * round_quarters t ≤ 70368744177664 * 102400 =
      mul-le round (round_quarters t) 70368744177664 102400 (omega (arith, early)) (omega (arith, few)) in
      let minislots : start * per ≤ 70368744177664 * 4096 =
      mul-le start per 70368744177664 4096 (omega (arith, near)) (omega (arith, inside, lawful.whole, few)) in
      omega (arith, begins_is, rounds, minislots)

  -- and behind each window where one is
  pub begins_late : (e : Entry) (begin : ℕ) → 1 ≤ t.round_ticks → (2 ^ 46 ≤ round) ⊎ (2 ^ 46 ≤ start) →
      begin + e.jitter < 2 ^ 50 → starts_from c.bursts.time e begin (round * map_len t c + start) ≡ false
  begins_late e begin some great near =
      let per : ℕ = minislot_ticks c.bursts.time in
      let rounds : round * 25 ≤ round * round_quarters t =
      mul-le round 25 round (round_quarters t) (omega arith) (omega (arith, some)) in
      let minislots : start * 1 ≤ start * per =
      mul-le start 1 start per (omega arith) (omega (arith, pow_pos c.bursts.time.minislot_log2)) in
      let behind : begin + e.jitter < begins = elim great [
        | inl late ↦ omega (arith, begins_is, rounds, late, near)
        | inr late ↦ omega (arith, begins_is, minislots, late, near)
      ] in
      and_right (nat_le begin begins) (nat_le begins (begin + e.jitter)) (lt-leb begins (begin + e.jitter) behind)
