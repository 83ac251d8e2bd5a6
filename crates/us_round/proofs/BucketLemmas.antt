-- Buckets that are refilled when they are asked for.
use Rattle.std.proofs.Common.{◌≡◌, ℕ, zero, suc, ◌+◌, ◌-◌, ◌==◌, if◌then◌else◌, ◌<◌, ◌≤◌, List, [], ◌∷◌, length, set, get_or, map, None, true, refl, ap, ap₂, sym, ◌∙◌, inl, inr, arith}
use Rattle.std.proofs.lemmas.Bool.{cases_Bool, eqb-true, eqb-false}
use Rattle.std.proofs.lemmas.List.{length-map}
use Rattle.std.specs.List.{AllByRecursion}
use Rattle.us_flows.specs.Tables.{FlowTable}
use Rattle.us_bucket.specs.Levels.{Level, bytes_in, full, refilled, reserve_in, spent}
use Rattle.us_bucket.specs.RoundBuckets.{Kept, after_rounds, brought_to, full_at_first, less, level_in}
use Rattle.us_bucket.proofs.RoundLemmas.{next-refills}
use Rattle.us_round.specs.Buckets.{Buckets, begun_buckets, levels_in}

-- the next round refills all levels
pub next_levels : (ticks round : ℕ) (kept : List Kept) → AllByRecursion (λ k. k.as_of ≤ round) kept →
    levels_in ticks (round + 1) kept ≡ map (refilled ticks) (levels_in ticks round kept)
next_levels ticks round [] before = refl
next_levels ticks round (k ∷ kept) before =
    ap₂ (λ l ls. l ∷ ls) (next-refills ticks round k before.0) (next_levels ticks round kept before.1)

-- a bucket that is put back as of the round, at this level
pub put_levels : (ticks round place : ℕ) (kept : List Kept) (k : Kept) → k.as_of ≡ round →
    levels_in ticks round (set kept place k) ≡ set (levels_in ticks round kept) place k.level
unfolding after_rounds
put_levels ticks round place [] k is = refl
put_levels ticks round zero (j ∷ kept) k is =
    let none : round - k.as_of ≡ 0 = omega (arith, is) in
    ap (λ n. after_rounds ticks n k.level ∷ levels_in ticks round kept) none
put_levels ticks round (suc place) (j ∷ kept) k is =
    ap (λ more. level_in ticks round j ∷ more) (put_levels ticks round place kept k is)

-- the level at a place
pub level_at : (ticks round place : ℕ) (kept : List Kept) (k : Kept) (d : Level) → place < length kept →
    get_or (levels_in ticks round kept) place d ≡ level_in ticks round (get_or kept place k)
level_at ticks round place [] k d inside = absurd (omega (arith, inside))
level_at ticks round zero (j ∷ kept) k d inside = refl
level_at ticks round (suc place) (j ∷ kept) k d inside = level_at ticks round place kept k d (omega (arith, inside))

-- setting a level to what it is changes nothing
pub set_same : (xs : List Level) (place : ℕ) (d : Level) → place < length xs → set xs place (get_or xs place d) ≡ xs
set_same [] place d inside = refl
set_same (x ∷ xs) zero d inside = refl
set_same (x ∷ xs) (suc place) d inside = ap (λ more. x ∷ more) (set_same xs place d (omega (arith, inside)))

-- the bucket at a place, brought up to the round
pub brought_level : (ticks round place : ℕ) (kept : List Kept) (k : Kept) (d : Level) → place < length kept →
    k ≡ brought_to ticks round (get_or kept place k) → k.level ≡ get_or (levels_in ticks round kept) place d
brought_level ticks round place kept k d inside is =
    ap (λ b. b.level) is ∙ sym (level_at ticks round place kept k d inside)

-- changes no level,
pub brought_same : (ticks round place : ℕ) (kept next : List Kept) (k : Kept) → place < length kept →
    k ≡ brought_to ticks round (get_or kept place k) → next ≡ set kept place k →
    levels_in ticks round next ≡ levels_in ticks round kept
brought_same ticks round place kept next k inside is put =
    let levels : List Level = levels_in ticks round kept in
    ap (levels_in ticks round) put ∙ put_levels ticks round place kept k (ap (λ b. b.as_of) is)
    ∙ ap (set levels place) (brought_level ticks round place kept k k.level inside is)
    ∙ set_same levels place k.level (omega (arith, inside, length-map kept (level_in ticks round)))

-- and bytes that are spent then leave its level alone
pub spent_levels : (ticks round place bytes : ℕ) (kept next : List Kept) (k less_now : Kept) (d : Level) →
    place < length kept → k ≡ brought_to ticks round (get_or kept place k) → next ≡ set kept place k →
    less_now ≡ less bytes k →
    levels_in ticks round (set next place less_now)
    ≡ set (levels_in ticks round kept) place (spent bytes (get_or (levels_in ticks round kept) place d))
spent_levels ticks round place bytes kept next k less_now d inside is put spends =
    put_levels ticks round place next less_now (ap (λ b. b.as_of) spends ∙ ap (λ b. b.as_of) is)
    ∙ ap₂ (λ ls b. set ls place b.level) (brought_same ticks round place kept next k inside is put) spends
    ∙ ap (λ l. set (levels_in ticks round kept) place (spent bytes l)) (brought_level ticks round place kept k d inside is)

-- what is told of them
abbrev pub told : ℕ → ℕ → List Level → Buckets
told ticks round levels = record { levels = levels; ticks = ticks; round = round }

-- a round begins
pub begun_levels : (ticks old round : ℕ) (kept : List Kept) → old ≡ round - 1 →
    AllByRecursion (λ k. k.as_of ≤ old) kept →
    levels_in ticks round kept
    ≡ (if round == 0 then levels_in ticks old kept else map (refilled ticks) (levels_in ticks old kept))
begun_levels ticks old round kept is before = elim (cases_Bool (round == 0)) [
  | inl first ↦
      let same : round ≡ old = omega (arith, is, eqb-true round 0 first) in
      rw first (ap (λ n. levels_in ticks n kept) same)
  | inr later ↦
      let next : round ≡ old + 1 = omega (arith, is, eqb-false round 0 later) in
      rw later (ap (λ n. levels_in ticks n kept) next ∙ next_levels ticks old kept before)
]

pub begun_is : (ticks old round : ℕ) (kept : List Kept) (before : Buckets) →
    told ticks old (levels_in ticks old kept) ≡ before → before.round ≡ round - 1 →
    AllByRecursion (λ k. k.as_of ≤ old) kept →
    told ticks round (levels_in ticks round kept) ≡ begun_buckets round before
begun_is ticks old round kept before is next earlier =
    ap (told ticks round) (begun_levels ticks old round kept (ap (λ b. b.round) is ∙ next) earlier)
    ∙ ap (begun_buckets round) is

-- before round 0
pub full_before : (flows : List FlowTable) →
    AllByRecursion (λ k. k.as_of ≤ 0) (map (λ flow. full_at_first flow.rate flow.burst) flows)
full_before [] = tt
full_before (flow ∷ flows) = (omega arith, full_before flows)

pub full_levels : (ticks : ℕ) (flows : List FlowTable) →
    levels_in ticks 0 (map (λ flow. full_at_first flow.rate flow.burst) flows) ≡ map (λ flow. full flow.rate flow.burst) flows
unfolding after_rounds
full_levels ticks [] = refl
full_levels ticks (flow ∷ flows) = ap (λ more. full flow.rate flow.burst ∷ more) (full_levels ticks flows)

-- and so of minimum rates
pub reserves_before : (flows : List FlowTable) →
    AllByRecursion (λ k. k.as_of ≤ 0) (map (λ flow. full_at_first flow.min_rate flow.burst) flows)
reserves_before [] = tt
reserves_before (flow ∷ flows) = (omega arith, reserves_before flows)

pub reserve_levels : (ticks : ℕ) (flows : List FlowTable) →
    levels_in ticks 0 (map (λ flow. full_at_first flow.min_rate flow.burst) flows)
    ≡ map (λ flow. full flow.min_rate flow.burst) flows
unfolding after_rounds
reserve_levels ticks [] = refl
reserve_levels ticks (flow ∷ flows) = ap (λ more. full flow.min_rate flow.burst ∷ more) (reserve_levels ticks flows)

-- A bucket that has no rate reserves nothing, in whatever round.

rate_stays : (ticks rounds : ℕ) (l : Level) → (after_rounds ticks rounds l).rate ≡ l.rate
unfolding after_rounds refilled
rate_stays ticks zero l = refl
rate_stays ticks (suc rounds) l = rate_stays ticks rounds l

pub no_reserve : (ticks round : ℕ) (kept : Kept) → bytes_in kept.level ≡ None → reserve_in (level_in ticks round kept) ≡ 0
unfolding bytes_in reserve_in
no_reserve ticks round kept none = elim (cases_Bool (kept.level.rate == 0)) [
  | inl t ↦
      let same : ((level_in ticks round kept).rate == 0) ≡ true =
      ap (λ r. r == 0) (rate_stays ticks (round - kept.as_of) kept.level) ∙ t in
      rw same refl
  | inr f ↦ let there = rw f at none in absurd (cc there)
]
