-- The bucket and the bound: credits whose bytes the bucket has keep the bound over every span of rounds, and credits
-- that keep it are in the bucket.
use Rattle.std.proofs.Common.{◌≡◌, ℕ, zero, suc, ◌+◌, ◌*◌, ◌<◌, ◌≤◌, List, [], ◌∷◌, length, take, drop, refl, subst, ◌∙◌, inl, inr, arith}
use Rattle.std.specs.Prelude.{sum}
use Rattle.std.proofs.lemmas.List.Sums.{sum_by-cons}
use Rattle.us_bucket.specs.Levels.{Level, units_per_byte, full, refilled, spent}
use Rattle.us_bucket.specs.Allowances.{Limit}
use Rattle.us_bucket.specs.Spans.{credits_from}
use Rattle.us_bucket.specs.Laws.{level_after, HasEach}
use Rattle.us_bucket.specs.declared.events.Event.{Event}
use Rattle.us_bucket.specs.declared.events.Event.TheVariants.{NextRound, Credit}
use Rattle.us_bucket.proofs.LevelLemmas.{refilled-rate, refilled-burst, refilled-capped, refilled-grows, refilled-cases, spent-rate, spent-burst, spent-exact, spent-falls, has-units, units-has}

-- the level of a bucket of a limit
pub record IsLevelOf (limit : Limit) (l : Level) : Type 0 where
  pub rate : l.rate ≡ limit.rate
  pub burst : l.burst ≡ limit.burst
  pub within : l.units ≤ limit.burst * units_per_byte

pub full-of : (limit : Limit) → IsLevelOf limit (full limit.rate limit.burst)
full-of limit = record { rate = refl; burst = refl; within = omega arith }

pub refilled-of : (limit : Limit) (l : Level) (ticks : ℕ) → IsLevelOf limit l → IsLevelOf limit (refilled ticks l)
refilled-of limit l ticks of =
    record {
      rate = refilled-rate ticks l ∙ of.rate;
      burst = refilled-burst ticks l ∙ of.burst;
      within = subst (λ b. (refilled ticks l).units ≤ b * units_per_byte) of.burst (refilled-capped ticks l);
    }

pub spent-of : (limit : Limit) (l : Level) (bytes : ℕ) → IsLevelOf limit l → IsLevelOf limit (spent bytes l)
spent-of limit l bytes of =
    record {
      rate = spent-rate bytes l ∙ of.rate;
      burst = spent-burst bytes l ∙ of.burst;
      within = omega (arith, spent-falls bytes l, of.within);
    }

pub after-of : (limit : Limit) (events : List Event) (l : Level) (ticks : ℕ) → IsLevelOf limit l →
    IsLevelOf limit (level_after ticks events l)
after-of limit [] l ticks of = of
after-of limit (NextRound ∷ events) l ticks of =
    after-of limit events (refilled ticks l) ticks (refilled-of limit l ticks of)
after-of limit (Credit bytes ∷ events) l ticks of =
    after-of limit events (spent bytes l) ticks (spent-of limit l bytes of)

-- the units that a round adds
abbrev pub growth : Limit → ℕ
growth limit = limit.round_ticks * limit.rate

-- the rounds that are told of

some-round : (first : ℕ) (events : List Event) → 0 < length (credits_from first events)
some-round first [] = omega arith
some-round first (NextRound ∷ events) = omega arith
some-round first (Credit bytes ∷ events) = some-round (first + bytes) events

-- the first of them has what was counted before
first-counted : (first : ℕ) (events : List Event) → first ≤ sum (take 1 (credits_from first events))
first-counted first [] = omega arith
first-counted first (NextRound ∷ events) = omega arith
first-counted first (Credit bytes ∷ events) = omega (arith, first-counted (first + bytes) events)

-- one round more, before the others
sum-later : (first later : ℕ) (rest : List ℕ) →
    sum (take (suc (suc later)) (first ∷ rest)) ≡ first + sum (take (suc later) rest)
sum-later first later rest = sum_by-cons (λ x. x) first (take (suc later) rest)

-- What the bucket has keeps the bound.

-- from the first round on
first-span : (limit : Limit) (events : List Event) (l : Level) (first later : ℕ) → 0 < limit.rate → IsLevelOf limit l →
    HasEach limit.round_ticks events l → later < length (credits_from first events) →
    sum (take (suc later) (credits_from first events)) * units_per_byte
    ≤ first * units_per_byte + l.units + later * growth limit
first-span limit [] l first zero some of has within = omega arith
first-span limit [] l first (suc later) some of has within = absurd (omega arith)
first-span limit (NextRound ∷ events) l first zero some of has within = omega arith
first-span limit (NextRound ∷ events) l first (suc later) some of has within =
    let next = refilled limit.round_ticks l in
    let rest = first-span limit events next 0 later some (refilled-of limit l limit.round_ticks of) has (omega arith) in
    let grown : next.units ≤ l.units + growth limit =
    subst (λ r. next.units ≤ l.units + limit.round_ticks * r) of.rate (refilled-grows limit.round_ticks l) in
    omega (arith, rest, grown, sum-later first later (credits_from 0 events))
first-span limit (Credit bytes ∷ events) l first later some of has within =
    let left-of = spent-of limit l bytes of in
    let rest = first-span limit events (spent bytes l) (first + bytes) later some left-of has.1 within in
    let limited : 0 < l.rate = omega (arith, of.rate) in
    omega (arith, rest, spent-exact bytes l limited (has-units bytes l limited has.0))

-- from any round on
pub every-span : (limit : Limit) (events : List Event) (l : Level) (first i later : ℕ) → 0 < limit.rate →
    IsLevelOf limit l → first * units_per_byte + l.units ≤ limit.burst * units_per_byte →
    HasEach limit.round_ticks events l → i + later < length (credits_from first events) →
    sum (take (suc later) (drop i (credits_from first events))) * units_per_byte
    ≤ limit.burst * units_per_byte + later * growth limit
every-span limit [] l first zero later some of room has within =
    omega (arith, first-span limit [] l first later some of has (omega arith))
every-span limit [] l first (suc i) later some of room has within = absurd (omega arith)
every-span limit (NextRound ∷ events) l first zero later some of room has within =
    omega (arith, first-span limit (NextRound ∷ events) l first later some of has (omega arith))
every-span limit (NextRound ∷ events) l first (suc i) later some of room has within =
    let next = refilled-of limit l limit.round_ticks of in
    every-span limit events (refilled limit.round_ticks l) 0 i later some next (omega (arith, next.within)) has
    (omega arith)
every-span limit (Credit bytes ∷ events) l first i later some of room has within =
    let limited : 0 < l.rate = omega (arith, of.rate) in
    let exact = spent-exact bytes l limited (has-units bytes l limited has.0) in
    every-span limit events (spent bytes l) (first + bytes) i later some (spent-of limit l bytes of)
    (omega (arith, exact, room)) has.1 within

-- What keeps the bound is in the bucket.

-- the bound, by the first round of a span and how many are later
abbrev pub KeepsSpans : Limit → List ℕ → Type 0
KeepsSpans limit credits =
    (i later : ℕ) → i + later < length credits →
    sum (take (suc later) (drop i credits)) * units_per_byte ≤ limit.burst * units_per_byte + later * growth limit

-- some span up to now, of `before` bytes in `back` earlier rounds and `first` in this one, leaves no more than is in
-- the bucket; so what keeps the bound on the spans that begin where it does, and on later ones, is in the bucket
pub kept-has : (limit : Limit) (events : List Event) (l : Level) (before back first : ℕ) → 0 < limit.rate →
    IsLevelOf limit l →
    (before + first) * units_per_byte + l.units ≡ limit.burst * units_per_byte + back * growth limit →
    ((later : ℕ) → later < length (credits_from first events) →
    (before + sum (take (suc later) (credits_from first events))) * units_per_byte
    ≤ limit.burst * units_per_byte + (back + later) * growth limit) →
    KeepsSpans limit (credits_from first events) → HasEach limit.round_ticks events l
kept-has limit [] l before back first some of tied from keeps = tt
kept-has limit (Credit bytes ∷ events) l before back first some of tied from keeps =
    let limited : 0 < l.rate = omega (arith, of.rate) in
    let had : bytes * units_per_byte ≤ l.units =
    omega (arith, tied, from 0 (some-round (first + bytes) events), first-counted (first + bytes) events) in
    let left : (before + (first + bytes)) * units_per_byte + (spent bytes l).units
    ≡ limit.burst * units_per_byte + back * growth limit = omega (arith, tied, spent-exact bytes l limited had) in
    let left-of = spent-of limit l bytes of in (
      units-has bytes l limited had,
      kept-has limit events (spent bytes l) before back (first + bytes) some left-of left from keeps,
    )
kept-has limit (NextRound ∷ events) l before back first some of tied from keeps =
    let next = refilled limit.round_ticks l in
    let next-of = refilled-of limit l limit.round_ticks of in
    let later-spans : KeepsSpans limit (credits_from 0 events) = λ i later within. keeps (suc i) later (omega arith) in
    elim (refilled-cases limit.round_ticks l) [
      | inl more ↦
          let grown : next.units ≡ l.units + growth limit =
          subst (λ r. next.units ≡ l.units + limit.round_ticks * r) of.rate more in
          kept-has limit events next (before + first) (suc back) 0 some next-of (omega (arith, tied, grown))
          (λ later within. omega (arith, from (suc later) (omega arith), sum-later first later (credits_from 0 events)))
          later-spans
      | inr filled ↦
          let capped : next.units ≡ limit.burst * units_per_byte =
          subst (λ b. next.units ≡ b * units_per_byte) of.burst filled in
          kept-has limit events next 0 0 0 some next-of (omega (arith, capped))
          (λ later within. omega (arith, later-spans 0 later (omega arith)))
          later-spans
    ]
