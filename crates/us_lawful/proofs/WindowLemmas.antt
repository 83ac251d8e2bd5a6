-- When windows close: what becomes of an occurrence in the rounds of a run, told by the run's quarters.
use Rattle.std.proofs.Common.{◌≡◌, ℕ, suc, ◌+◌, ◌-◌, ◌*◌, ◌/◌, ◌<◌, ◌≤◌, nat_lt, nat_le, ◌||◌, Bool, true, false, cond, List, [], ◌∷◌, length, sum_by, count_by, slice_get, Some, refl, sym, ap, subst, ◌∙◌, arith, inl, inr, lt-ltb, ltb-true, ltb-false}
use Rattle.std.specs.List.{AllByRecursion}
use Rattle.std.proofs.lemmas.Bool.{and_parts, cases_Bool, false≢true, leb-true, or_cases}
use Rattle.std.proofs.lemmas.List.FromFn.{length-map-range_with_len}
use Rattle.std.proofs.lemmas.Nat.{div-mul-add, mul-le, pow_pos}
use Rattle.us_slots.specs.Times.{minislot_ticks, start_of}
use Rattle.us_flows.specs.declared.channels.Channel.{Channel}
use Rattle.us_flows.specs.Tables.{Tables, map_len}
use Rattle.us_flows.specs.Lawful.{IsChannel}
use Rattle.us_holes.specs.Boards.{Board}
use Rattle.us_calendar.specs.declared.settled.Settled.{Settled}
use Rattle.us_calendar.specs.declared.settled.Settled.TheVariants as settled
use Rattle.us_calendar.specs.Activity.{active_in, speaks_by}
use Rattle.us_calendar.specs.Entries.{Entry, rank_of}
use Rattle.us_calendar.specs.Occurrences.{Pace, comes, end_of, window_end, ideal}
use Rattle.us_calendar.specs.Calendars.{Calendar, pace_of, opening, after}
use Rattle.us_calendar.specs.Runs.{Round, rounds_on, end_after, is_name, grants, misses, times, IsSettledOnce, IsRight}
use Rattle.us_channel.specs.Reserves.{reserves}
use Rattle.us_round.specs.ScheduleLaws.{boards_of}
use Rattle.us_lawful.specs.CalendarLines.{round_quarters}
use Rattle.us_output.proofs.PartLemmas.{all_weaker}
use Rattle.us_lawful.proofs.SumLemmas.{sum_same, sum_both}
use Rattle.us_lawful.proofs.ItemLemmas.{none_passing, of_each, part_of_none}

-- Ends of rounds.

scaled : (r len ticks whole : ℕ) → len * ticks ≡ whole → 25 * (r * len * ticks) ≡ r * (25 * whole)
scaled r len ticks whole same = rw (← same) (grind arith)

-- a round ends where the quarters of the rounds up to it do
pub rounds_end : (t : Tables) (c : Channel) (r : ℕ) → IsChannel t c → end_after (pace_of t c) r ≡ r * round_quarters t
rounds_end t c r is = scaled r (map_len t c) (minislot_ticks c.bursts.time) t.round_ticks is.whole

-- a moment of a round of the run is before its end, and that round is the quotient
held : (moment quarters r count : ℕ) → r < count → r * quarters ≤ moment → moment < (r + 1) * quarters →
    (moment < count * quarters) × (moment / quarters ≡ r)
held moment quarters r count before low high =
    let next : (r + 1) * quarters ≡ r * quarters + quarters = grind arith in
    let inside : (r + 1) * quarters ≤ count * quarters =
    mul-le (r + 1) quarters count quarters (omega (arith, before)) (omega arith) in
    let rest : ℕ = moment - r * quarters in
    let parts : moment ≡ r * quarters + rest = omega (arith, low) in
    let small : rest < quarters = omega (arith, low, high, next) in
    (omega (arith, high, inside), ap (λ m. m / quarters) parts ∙ div-mul-add r quarters rest small)

-- a window that ends in a round of the run closes in the run, in that round
pub closing_in_round : (t : Tables) (c : Channel) (e : Entry) (n r count : ℕ) → IsChannel t c → r < count →
    end_after (pace_of t c) r ≤ window_end e n → window_end e n < end_after (pace_of t c) (r + 1) →
    (nat_lt (window_end e n) (count * round_quarters t) ≡ true) × (window_end e n / round_quarters t ≡ r)
closing_in_round t c e n r count is before low high =
    let both = held (window_end e n) (round_quarters t) r count before
    (subst (λ end. end ≤ window_end e n) (rounds_end t c r is) low)
    (subst (λ end. window_end e n < end) (rounds_end t c (r + 1) is) high) in
    (lt-ltb (window_end e n) (count * round_quarters t) both.0, both.1)

-- What is settled in a round is ideal before the round ends:

-- a minislot of the round starts before its end,
starts_before : (r len start ticks : ℕ) → start < len → 0 < ticks →
    25 * ((r * len + start) * ticks) < 25 * ((r + 1) * len * ticks)
starts_before r len start ticks inside some =
    let next : (r + 1) * len ≡ r * len + len = grind arith in
    let place : r * len + start + 1 ≤ (r + 1) * len = omega (arith, inside, next) in
    let product : (r * len + start + 1) * ticks ≤ (r + 1) * len * ticks =
    mul-le (r * len + start + 1) ticks ((r + 1) * len) ticks place (omega arith) in
    let parts : (r * len + start + 1) * ticks ≡ (r * len + start) * ticks + ticks = grind arith in
    omega (arith, product, parts, some)

-- and so does a window that ends there
pub settled_before : (pace : Pace) (r : ℕ) (e : Entry) (active : Bool) (n : ℕ) (board : Board) (s : Settled) →
    (grants e n s || misses e n s) ≡ true → IsRight pace r e active n board s → ideal e n < end_after pace (r + 1)
settled_before pace r e active n board (settled.Granted kind id i k start slots owner) named right =
    let name : is_name e n (rank_of kind) id i k ≡ true =
    elim (or_cases (is_name e n (rank_of kind) id i k) false named) [ inl own ↦ own | inr never ↦ absurd (cc never) ] in
    let facts = right name in
    let moment : ℕ = start_of pace.time (r * pace.len + start) in
    let parts = and_parts (nat_le (ideal e n) moment) (nat_le moment (ideal e n + e.jitter)) facts.1 in
    let early : ideal e n ≤ moment = leb-true (ideal e n) moment parts.0 in
    let before = starts_before r pace.len start (minislot_ticks pace.time) facts.0 (pow_pos pace.time.minislot_log2) in
    omega (arith, early, before)
settled_before pace r e active n board (settled.Missed kind id i k) named right =
    let facts = right named in
    omega (arith, facts.1)

-- so in a round of the run it is ideal before the run ends
pub before_the_end : (t : Tables) (c : Channel) (e : Entry) (n r count : ℕ) → IsChannel t c → r < count →
    ideal e n < end_after (pace_of t c) (r + 1) → nat_lt (ideal e n) (count * round_quarters t) ≡ true
before_the_end t c e n r count is before early =
    let inside : (r + 1) * round_quarters t ≤ count * round_quarters t =
    mul-le (r + 1) (round_quarters t) count (round_quarters t) (omega (arith, before)) (omega arith) in
    let soon : ideal e n < (r + 1) * round_quarters t =
    subst (λ end. ideal e n < end) (rounds_end t c (r + 1) is) early in
    lt-ltb (ideal e n) (count * round_quarters t) (omega (arith, soon, inside))

-- What a channel's calendar settles.

-- the rounds that it goes over in a run
abbrev pub rounds_for : Tables → Channel → List (List ℕ) → List Round
rounds_for t c cuts = rounds_on (opening t c) cuts (boards_of t c (length cuts))

rounds_on_long : (calendar : Calendar) (cuts : List (List ℕ)) (boards : List Board) → length cuts ≡ length boards →
    length (rounds_on calendar cuts boards) ≡ length cuts
rounds_on_long calendar [] boards many = refl
rounds_on_long calendar (cut ∷ cuts) [] many = absurd (omega (arith, many))
rounds_on_long calendar (cut ∷ cuts) (board ∷ boards) many =
    ap suc (rounds_on_long (after calendar cut board) cuts boards (omega (arith, many)))

pub rounds_for_long : (t : Tables) (c : Channel) (cuts : List (List ℕ)) → length (rounds_for t c cuts) ≡ length cuts
rounds_for_long t c cuts =
    rounds_on_long (opening t c) cuts (boards_of t c (length cuts))
    (sym (length-map-range_with_len (reserves c (map_len t c)) 0 (length cuts)))

-- the round that holds a time is the quotient by the quarters of a round, by which the calendar tells who is active
pub speaks_alike : (t : Tables) (c : Channel) (cuts : List (List ℕ)) (e : Entry) → IsChannel t c →
    speaks_by (pace_of t c) cuts e ≡ (λ time. active_in e.silence cuts (time / round_quarters t))
speaks_alike t c cuts e is =
    let first : end_of (pace_of t c) 0 ≡ round_quarters t = omega (arith, rounds_end t c 1 is) in
    ap (λ quarters time. active_in e.silence cuts (time / quarters)) first

-- no item both grants and misses
one_of : (e : Entry) (n : ℕ) (s : Settled) →
    cond {A = ℕ} (grants e n s || misses e n s) 1 0 ≡ cond {A = ℕ} (grants e n s) 1 0 + cond {A = ℕ} (misses e n s) 1 0
one_of e n (settled.Granted kind id i k start slots owner) = by (is_name e n (rank_of kind) id i k)
  where
    by : (b : Bool) → cond {A = ℕ} (b || false) 1 0 ≡ cond {A = ℕ} b 1 0 + cond {A = ℕ} false 1 0
    by true = refl
    by false = refl
one_of e n (settled.Missed kind id i k) = by (is_name e n (rank_of kind) id i k)
  where
    by : (b : Bool) → cond {A = ℕ} (false || b) 1 0 ≡ cond {A = ℕ} false 1 0 + cond {A = ℕ} b 1 0
    by true = refl
    by false = refl

count_parted : (e : Entry) (n : ℕ) (all : List Settled) →
    count_by (λ s. grants e n s || misses e n s) all ≡ count_by (grants e n) all + count_by (misses e n) all
count_parted e n all =
    sum_same (λ s. cond (grants e n s || misses e n s) 1 0) (λ s. cond (grants e n s) 1 0 + cond (misses e n s) 1 0) all
    (each all) ∙ sum_both (λ s. cond (grants e n s) 1 0) (λ s. cond (misses e n s) 1 0) all
  where
    each : (all : List Settled) → AllByRecursion (λ s. cond {A = ℕ} (grants e n s || misses e n s) 1 0
        ≡ cond {A = ℕ} (grants e n s) 1 0 + cond {A = ℕ} (misses e n s) 1 0) all
    each [] = tt
    each (s ∷ all) = (one_of e n s, each all)

-- what is granted or missed, over rounds
pub times_parted : (e : Entry) (n : ℕ) (rounds : List Round) →
    sum_by (λ round. count_by (λ s. grants e n s || misses e n s) round.settled) rounds
    ≡ times (grants e n) rounds + times (misses e n) rounds
times_parted e n rounds =
    sum_same (λ (round : Round). count_by (λ s. grants e n s || misses e n s) round.settled)
    (λ round. count_by (grants e n) round.settled + count_by (misses e n) round.settled) rounds (each rounds)
    ∙ sum_both (λ (round : Round). count_by (grants e n) round.settled)
    (λ round. count_by (misses e n) round.settled) rounds
  where
    each : (rounds : List Round) → AllByRecursion (λ round. count_by (λ s. grants e n s || misses e n s) round.settled
        ≡ count_by (grants e n) round.settled + count_by (misses e n) round.settled) rounds
    each [] = tt
    each (round ∷ rounds) = (count_parted e n round.settled, each rounds)

-- an occurrence that comes is settled once where its window closes in the run,
pub closed_once : (t : Tables) (c : Channel) (cuts : List (List ℕ)) (speaks : ℕ → Bool) (e : Entry) (n : ℕ) →
    IsChannel t c → IsSettledOnce (pace_of t c) speaks (rounds_for t c cuts) e n → comes e speaks n ≡ true →
    nat_lt (window_end e n) (length cuts * round_quarters t) ≡ true →
    times (grants e n) (rounds_for t c cuts) + times (misses e n) (rounds_for t c cuts) ≡ 1
closed_once t c cuts speaks e n is once it closes =
    let end : end_after (pace_of t c) (length (rounds_for t c cuts)) ≡ length cuts * round_quarters t =
    ap (end_after (pace_of t c)) (rounds_for_long t c cuts) ∙ rounds_end t c (length cuts) is in
    once.closed it (subst (λ moment. window_end e n < moment) (sym end)
    (ltb-true (window_end e n) (length cuts * round_quarters t) closes))

-- and at most once where it doesn't
pub open_once : (t : Tables) (c : Channel) (cuts : List (List ℕ)) (speaks : ℕ → Bool) (e : Entry) (n : ℕ) →
    IsChannel t c → IsSettledOnce (pace_of t c) speaks (rounds_for t c cuts) e n →
    nat_lt (window_end e n) (length cuts * round_quarters t) ≡ false →
    times (grants e n) (rounds_for t c cuts) + times (misses e n) (rounds_for t c cuts) ≤ 1
open_once t c cuts speaks e n is once opens =
    let end : end_after (pace_of t c) (length (rounds_for t c cuts)) ≡ length cuts * round_quarters t =
    ap (end_after (pace_of t c)) (rounds_for_long t c cuts) ∙ rounds_end t c (length cuts) is in
    let waits = once.waits (subst (λ moment. moment ≤ window_end e n) (sym end)
    (ltb-false (window_end e n) (length cuts * round_quarters t) opens)) in
    omega (arith, waits.0, waits.1)

-- What a round settles is of occurrences that come.

pub settled_come : (pace : Pace) (speaks : ℕ → Bool) (rounds : List Round) (e : Entry) (n r : ℕ) (round : Round) →
    IsSettledOnce pace speaks rounds e n → slice_get rounds r ≡ Some round →
    AllByRecursion (λ s. (grants e n s || misses e n s) ≡ true → comes e speaks n ≡ true) round.settled
settled_come pace speaks rounds e n r round once at = elim (cases_Bool (comes e speaks n)) [
  | inl is ↦ of_each (λ s. (grants e n s || misses e n s) ≡ true → comes e speaks n ≡ true) round.settled (λ s named. is)
  | inr out ↦
      let both : Settled → Bool = λ s. grants e n s || misses e n s in
      let none : sum_by (λ (round : Round). count_by both round.settled) rounds ≡ 0 =
      omega (arith, times_parted e n rounds, once.left_out out) in
      all_weaker (λ s. both s ≡ false) (λ s. both s ≡ true → comes e speaks n ≡ true)
      (λ s unnamed named. absurd (false≢true (sym unnamed ∙ named))) round.settled
      (none_passing both round.settled
      (part_of_none (λ (round : Round). count_by both round.settled) rounds r round none at))
]
