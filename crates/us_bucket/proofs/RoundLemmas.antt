-- Refills of several rounds are one refill.
use Rattle.std.proofs.Common.{◌≡◌, ℕ, zero, suc, ◌+◌, ◌-◌, ◌*◌, ◌≤◌, min, ap, ap₂, sym, ◌∙◌, arith}
use Rattle.us_bucket.specs.Levels.{Level, IsLevel, cap, refilled}
use Rattle.us_bucket.specs.RoundBuckets.{Kept, after_rounds, brought_to, RefillsAreOne, RoundsAreOneRefill, NextRoundRefills, BringingKeepsLevels}

-- levels of one flow with as many units are one level
pub same_level : (l : Level) (a b : ℕ) → a ≡ b →
    ◌≡◌ {A = Level} (record { rate = l.rate; burst = l.burst; units = a }) (record { rate = l.rate; burst = l.burst; units = b })
same_level l a b same = ap (λ units. record { rate = l.rate; burst = l.burst; units = units }) same

pub refilled-nothing : (l : Level) → IsLevel l → refilled 0 l ≡ l
unfolding refilled
refilled-nothing l is = same_level l (min (l.units + 0 * l.rate) (cap l)) l.units (omega (arith, is))

pub refills-are-one : RefillsAreOne
unfolding refilled
refills-are-one first more l =
    same_level l (min (min (l.units + first * l.rate) (cap l) + more * l.rate) (cap l))
    (min (l.units + (first + more) * l.rate) (cap l)) (omega arith)

pub rounds-are-one : RoundsAreOneRefill
unfolding after_rounds
rounds-are-one ticks zero l is =
    let none : 0 * ticks ≡ 0 = omega arith in
    sym (ap (λ time. refilled time l) none ∙ refilled-nothing l is)
rounds-are-one ticks (suc rounds) l is =
    let time : rounds * ticks + ticks ≡ suc rounds * ticks = omega arith in
    ap (refilled ticks) (rounds-are-one ticks rounds l is) ∙ refills-are-one (rounds * ticks) ticks l
    ∙ ap (λ time. refilled time l) time

rounds-join : (ticks more rounds : ℕ) (l : Level) →
    after_rounds ticks more (after_rounds ticks rounds l) ≡ after_rounds ticks (more + rounds) l
unfolding after_rounds
rounds-join ticks zero rounds l =
    let count : rounds ≡ 0 + rounds = omega arith in
    ap (λ n. after_rounds ticks n l) count
rounds-join ticks (suc more) rounds l =
    let count : suc (more + rounds) ≡ suc more + rounds = omega arith in
    ap (refilled ticks) (rounds-join ticks more rounds l) ∙ ap (λ n. after_rounds ticks n l) count

pub next-refills : NextRoundRefills
unfolding after_rounds
next-refills ticks round kept later =
    let count : round + 1 - kept.as_of ≡ suc (round - kept.as_of) = omega arith in
    ap (λ n. after_rounds ticks n kept.level) count

pub bringing-keeps : BringingKeepsLevels
bringing-keeps ticks round later kept before after =
    let count : later - round + (round - kept.as_of) ≡ later - kept.as_of = omega arith in
    rounds-join ticks (later - round) (round - kept.as_of) kept.level
    ∙ ap (λ n. after_rounds ticks n kept.level) count

-- a bucket that stands as of a round is brought up to it
pub stands : (ticks round : ℕ) (kept : Kept) → kept.as_of ≤ round → round ≤ kept.as_of → kept ≡ brought_to ticks round kept
unfolding after_rounds
stands ticks round kept before there =
    let none : round - kept.as_of ≡ 0 = omega (arith, there) in
    let same : kept.as_of ≡ round = omega (arith, before, there) in
    ap₂ (λ n as_of. record { level = after_rounds ticks n kept.level; as_of = as_of }) (sym none) same
