-- The bound of a flow's rate holds over all spans of rounds where its bucket has the credits of each round.
use Rattle.std.proofs.Common.{◌≡◌, ℕ, zero, suc, ◌+◌, ◌-◌, ◌*◌, ◌/◌, ◌<◌, ◌≤◌, ◌==◌, Bool, true, false, List, min, take, drop, refl, sym, ap, ap₂, subst, ◌∙◌, inl, inr, arith, ne_eqb}
use Rattle.std.specs.Prelude.{sum, sum_by}
use Rattle.std.specs.List.{AllByRecursion, list_all, range_with_len}
use Rattle.std.proofs.lemmas.Bool.{cases_lt, false_from_ne_true, le-leb, leb-false, leb-true}
use Rattle.std.proofs.lemmas.List.FromFn.{take-map-range_with_len}
use Rattle.us_flows.specs.Tables.{Tables, FlowTable}
use Rattle.us_bucket.specs.Levels.{Level, full, refilled, spent, bytes_in, units_per_byte}
use Rattle.us_bucket.specs.Spans.{credited}
use Rattle.us_bucket.proofs.LevelLemmas.{refilled-rate, refilled-burst, spent-rate, spent-burst}
use Rattle.us_lawful.specs.Rates.{span_holds}
use Rattle.us_lawful.proofs.SameLemmas.{sum_map}
use Rattle.us_lawful.proofs.TestLemmas.{all_pass, each_passes}
use Rattle.us_credit_rules.specs.Buckets.{has}
use Rattle.us_credit_rules.proofs.LedgerLemmas.{sum_next}
use Rattle.us_credit_rules.proofs.WalkLemmas.{before, behind_is, has_round, range_all, rounds_of}

-- Spans.

drop_rounds : (f : ℕ → ℕ) (from n i : ℕ) → i ≤ n → drop i (rounds_of f from n) ≡ rounds_of f (from + i) (n - i)
drop_rounds f from n zero within =
    let start : from ≡ from + 0 = omega arith in
    let count : n ≡ n - 0 = omega arith in
    ap (λ m. rounds_of f from m) count ∙ ap (λ at. rounds_of f at (n - 0)) start
drop_rounds f from zero (suc i) within = absurd (omega (arith, within))
drop_rounds f from (suc n) (suc i) within =
    let start : from + 1 + i ≡ from + suc i = omega arith in
    let count : n - i ≡ suc n - suc i = omega arith in
    drop_rounds f (from + 1) n i (omega (arith, within)) ∙ ap (λ at. rounds_of f at (n - i)) start
    ∙ ap (λ m. rounds_of f (from + suc i) m) count

-- what a span credits depends on its rounds alone
credited_is : (f : ℕ → ℕ) (n i j : ℕ) → i ≤ j → j < n →
    credited (rounds_of f 0 n) i j ≡ sum_by f (range_with_len i (suc (j - i)))
credited_is f n i j order inside =
    let start : 0 + i ≡ i = omega arith in
    let count : j - i + 1 ≡ suc (j - i) = omega arith in
    ap (λ rest. sum (take (j - i + 1) rest)) (drop_rounds f 0 n i (omega (arith, order, inside))
    ∙ ap (λ at. rounds_of f at (n - i)) start)
    ∙ ap sum (take-map-range_with_len f i (n - i) (j - i + 1) (omega (arith, order, inside)))
    ∙ sum_map (λ bytes. bytes) f (range_with_len i (j - i + 1)) ∙ ap (λ m. sum_by f (range_with_len i m)) count

-- Units of a bucket with a limit.

enough : (l : Level) (bytes : ℕ) → 0 < l.rate → has l bytes ≡ true → bytes * units_per_byte ≤ l.units
unfolding bytes_in
enough l bytes limited had =
    let some : (l.rate == 0) ≡ false = ne_eqb l.rate 0 (λ none. omega (arith, none, limited)) in
    let most : bytes ≤ l.units / units_per_byte = leb-true bytes (l.units / units_per_byte) (rw some at had) in
    omega (arith, most)

scarce : (l : Level) (bytes : ℕ) → 0 < l.rate → has l bytes ≡ false → l.units < bytes * units_per_byte
unfolding bytes_in
scarce l bytes limited lacked =
    let some : (l.rate == 0) ≡ false = ne_eqb l.rate 0 (λ none. omega (arith, none, limited)) in
    let more : l.units / units_per_byte < bytes = leb-false bytes (l.units / units_per_byte) (rw some at lacked) in
    omega (arith, more)

grown_units : (ticks bytes : ℕ) (l : Level) → 0 < l.rate →
    (refilled ticks (spent bytes l)).units
    ≡ min (l.units - bytes * units_per_byte + ticks * l.rate) (l.burst * units_per_byte)
unfolding refilled spent
grown_units ticks bytes l limited =
    let some : (l.rate == 0) ≡ false = ne_eqb l.rate 0 (λ none. omega (arith, none, limited)) in
    rw some refl

-- What is in a bucket when a round starts: with the bytes of any span that ends there it is no more than the bound, and with
-- those of one span it is just that.
record IsTied (rate burst growth : ℕ) (f : ℕ → ℕ) (round : ℕ) (now : Level) : Type 0 where
  rate_is : now.rate ≡ rate
  burst_is : now.burst ≡ burst
  above : (first n : ℕ) → first + n ≡ round →
      sum_by f (range_with_len first n) * units_per_byte + now.units ≤ burst * units_per_byte + n * growth
  least : ℕ
  count : ℕ
  there : least + count ≡ round
  met : sum_by f (range_with_len least count) * units_per_byte + now.units ≡ burst * units_per_byte + count * growth

-- a round more, whose bytes are there
module _ (rate burst ticks : ℕ) (f : ℕ → ℕ) (round : ℕ) (now : Level) (some : 0 < rate)
    (tied : IsTied rate burst (ticks * rate) f round now) (had : has now (f round) ≡ true) where
  abbrev after : Level
  after = refilled ticks (spent (f round) now)

  abbrev growth : ℕ
  growth = ticks * rate

  limited : 0 < now.rate
  limited = omega (arith, some, tied.rate_is)

  fits : f round * units_per_byte ≤ now.units
  fits = enough now (f round) limited had

  units : after.units ≡ min (now.units - f round * units_per_byte + growth) (burst * units_per_byte)
  units =
      grown_units ticks (f round) now limited
      ∙ ap₂ (λ r b. min (now.units - f round * units_per_byte + ticks * r) (b * units_per_byte)) tied.rate_is tied.burst_is

  next : (n g : ℕ) → suc n * g ≡ n * g + g
  next n g = omega arith

  over : (first n : ℕ) → first + n ≡ suc round →
      sum_by f (range_with_len first n) * units_per_byte + after.units ≤ burst * units_per_byte + n * growth
  over first zero end = omega (arith, units)
  over first (suc n) end =
      let at : first + n ≡ round = omega (arith, end) in
      omega (arith, units, tied.above first n at, sum_next f first n, ap f at, fits, next n growth)

  tied_next : IsTied rate burst growth f (suc round) after
  tied_next = elim (cases_lt (now.units - f round * units_per_byte + growth) (burst * units_per_byte)) [
    | inl below ↦ record {
      rate_is = refilled-rate ticks (spent (f round) now) ∙ spent-rate (f round) now ∙ tied.rate_is;
      burst_is = refilled-burst ticks (spent (f round) now) ∙ spent-burst (f round) now ∙ tied.burst_is;
      above = over;
      least = tied.least;
      count = suc tied.count;
      there = omega (arith, tied.there);
      met = omega (
        arith,
        units,
        below,
        tied.met,
        sum_next f tied.least tied.count,
        ap f tied.there,
        fits,
        next tied.count growth,
      );
    }
    | inr cut ↦ record {
      rate_is = refilled-rate ticks (spent (f round) now) ∙ spent-rate (f round) now ∙ tied.rate_is;
      burst_is = refilled-burst ticks (spent (f round) now) ∙ spent-burst (f round) now ∙ tied.burst_is;
      above = over;
      least = suc round;
      count = 0;
      there = omega arith;
      met = omega (arith, units, cut);
    }
  ]

-- Rounds that end spans.

-- of all spans that end in a round
abbrev pub ends_well : Tables → FlowTable → List ℕ → ℕ → Bool
ends_well t flow credits last = list_all (span_holds t flow credits last) (range_with_len 0 (last + 1))

ended : (t : Tables) (flow : FlowTable) (credits : List ℕ) (last first : ℕ) → first ≤ last →
    ends_well t flow credits last ≡ true →
    credited credits first last * units_per_byte
    ≤ flow.burst * units_per_byte + (last - first) * (t.round_ticks * flow.rate)
ended t flow credits last first order all =
    leb-true (credited credits first last * units_per_byte)
    (flow.burst * units_per_byte + (last - first) * (t.round_ticks * flow.rate))
    (range_each (λ i. span_holds t flow credits last i ≡ true) 0 (last + 1)
    (each_passes (span_holds t flow credits last) (range_with_len 0 (last + 1)) all) first (omega arith) (omega (arith, order)))
  where
    range_each : (P : ℕ → Type 0) (from n : ℕ) → AllByRecursion P (range_with_len from n) → (i : ℕ) → from ≤ i →
        i < from + n → P i
    range_each P from zero each i late inside = absurd (omega (arith, late, inside))
    range_each P from (suc n) each i late inside = elim (cases_lt from i) [
      | inl behind ↦ range_each P (from + 1) n each.1 i (omega (arith, behind)) (omega (arith, inside))
      | inr here ↦
          let same : from ≡ i = omega (arith, here, late) in
          subst P same each.0
    ]

ends : (t : Tables) (flow : FlowTable) (credits : List ℕ) (last : ℕ) → ((first : ℕ) → first ≤ last →
    credited credits first last * units_per_byte
    ≤ flow.burst * units_per_byte + (last - first) * (t.round_ticks * flow.rate)) →
    ends_well t flow credits last ≡ true
ends t flow credits last each =
    all_pass (span_holds t flow credits last) (range_with_len 0 (last + 1))
    (range_all (λ first. span_holds t flow credits last first ≡ true) 0 (last + 1)
    (λ first late inside. le-leb (credited credits first last * units_per_byte)
    (flow.burst * units_per_byte + (last - first) * (t.round_ticks * flow.rate)) (each first (omega (arith, inside)))))

-- where the bucket has the bytes of all rounds up to one, all spans that end there keep the bound
module _ (t : Tables) (flow : FlowTable) (f : ℕ → ℕ) (some : 0 < flow.rate) where
  abbrev has_its : ℕ → Bool
  has_its = has_round t.round_ticks (full flow.rate flow.burst) f

  abbrev level : ℕ → Level
  level = before t.round_ticks (full flow.rate flow.burst) f

  tied_all : (round : ℕ) → ((k : ℕ) → k < round → has_its k ≡ true) →
      IsTied flow.rate flow.burst (t.round_ticks * flow.rate) f round (level round)
  tied_all zero all = record {
    rate_is = refl;
    burst_is = refl;
    above = λ first n end.
        let none : n ≡ 0 = omega (arith, end) in
        subst (λ n. sum_by f (range_with_len first n) * units_per_byte + flow.burst * units_per_byte
        ≤ flow.burst * units_per_byte + n * (t.round_ticks * flow.rate)) (sym none) (omega arith);
    least = 0;
    count = 0;
    there = omega arith;
    met = omega arith;
  }
  tied_all (suc round) all =
      subst (λ now. IsTied flow.rate flow.burst (t.round_ticks * flow.rate) f (suc round) (refilled t.round_ticks now))
      (sym (behind_is t.round_ticks (full flow.rate flow.burst) f round))
      (tied_next flow.rate flow.burst t.round_ticks f round (level round) some
      (tied_all round (λ k early. all k (omega (arith, early)))) (all round (omega arith)))

  pub had_ends : (rounds last : ℕ) → last < rounds → ((k : ℕ) → k ≤ last → has_its k ≡ true) →
      ends_well t flow (rounds_of f 0 rounds) last ≡ true
  had_ends rounds last within all =
      let tied = tied_all last (λ k early. all k (omega (arith, early))) in
      ends t flow (rounds_of f 0 rounds) last (λ first order.
      let at : first + (last - first) ≡ last = omega (arith, order) in
      omega (
        arith,
        credited_is f rounds first last order within,
        sum_next f first (last - first),
        ap f at,
        tied.above first (last - first) at,
        enough (level last) (f last) (omega (arith, some, tied.rate_is)) (all last (omega arith)),
      ))

  -- and where it lacks those of a round, one span that ends there doesn't
  pub lacked_ends : (rounds last : ℕ) → last < rounds → ((k : ℕ) → k < last → has_its k ≡ true) → has_its last ≡ false →
      ends_well t flow (rounds_of f 0 rounds) last ≡ false
  lacked_ends rounds last within all lacked =
      let tied = tied_all last all in
      let order : tied.least ≤ last = omega (arith, tied.there) in
      let count : last - tied.least ≡ tied.count = omega (arith, tied.there) in
      false_from_ne_true (ends_well t flow (rounds_of f 0 rounds) last) (λ well.
      omega (
        arith,
        ended t flow (rounds_of f 0 rounds) last tied.least order well,
        credited_is f rounds tied.least last order within,
        ap (λ n. sum_by f (range_with_len tied.least (suc n))) count,
        ap (λ n. n * (t.round_ticks * flow.rate)) count,
        sum_next f tied.least tied.count,
        ap f tied.there,
        tied.met,
        scarce (level last) (f last) (omega (arith, some, tied.rate_is)) lacked,
      ))
