-- Rounds with one credit each, one after another: what the bucket has behind them, and what keeps the bound in the next one.
use Rattle.std.proofs.Common.{◌≡◌, ℕ, ◌+◌, ◌<◌, ◌≤◌, List, [], ◌∷◌, ◌++◌, append_assoc, refl, ap, ap₂, sym, subst, ◌∙◌, inl, inr, arith}
use Rattle.us_bucket.specs.Levels.{Level, refilled, spent, reserve_in, Has}
use Rattle.us_bucket.specs.Allowances.{Limit, KeepsBound, IsReserve}
use Rattle.us_bucket.specs.Spans.{credits_of}
use Rattle.us_bucket.specs.Laws.{level_after, HasEach, first_level}
use Rattle.us_bucket.specs.declared.events.Event.{Event}
use Rattle.us_bucket.specs.declared.events.Event.TheVariants.{NextRound, Credit}
use Rattle.us_bucket.proofs.AllowanceLemmas.{kept, has-each-lawful, level_after-append, has_each-append, credits-join, is-reserve}

-- A bucket at the begin of a round, behind rounds with these credits, which it had.
pub record IsBehind (limit : Limit) (credits : List ℕ) (l : Level) : Type 0 where
  pub events : List Event
  pub had : HasEach limit.round_ticks events (first_level limit)
  pub level : level_after limit.round_ticks events (first_level limit) ≡ l
  pub credit : (bytes : ℕ) → credits_of (events ++ Credit bytes ∷ []) ≡ credits ++ bytes ∷ []

pub behind-none : (limit : Limit) → IsBehind limit [] (first_level limit)
behind-none limit = record {
  events = [];
  had = tt;
  level = refl;
  credit = λ bytes. let same : 0 + bytes ≡ bytes = omega arith in ap (λ n. n ∷ []) same;
}

-- with a credit of this round, before the next one begins
pub behind-one : (limit : Limit) (credits : List ℕ) (l : Level) (bytes : ℕ) → IsBehind limit credits l → Has l bytes →
    IsBehind limit (credits ++ bytes ∷ []) (refilled limit.round_ticks (spent bytes l))
behind-one limit credits l bytes is has = record {
  events = is.events ++ more;
  had = (has_each-append limit.round_ticks is.events more (first_level limit)).1 (is.had, rw is.level (has, tt));
  level = level_after-append limit.round_ticks is.events more (first_level limit)
      ∙ ap (λ b. refilled limit.round_ticks (spent bytes b)) is.level;
  credit = λ next.
      let none : 0 + next ≡ next = omega arith in
      let joined : (is.events ++ more) ++ Credit next ∷ [] ≡ (is.events ++ Credit bytes ∷ []) ++ NextRound ∷ Credit next ∷ [] =
      append_assoc is.events more (Credit next ∷ [])
      ∙ sym (append_assoc is.events (Credit bytes ∷ []) (NextRound ∷ Credit next ∷ [])) in
      ap credits_of joined ∙ credits-join 0 (is.events ++ Credit bytes ∷ []) (Credit next ∷ [])
      ∙ ap₂ (λ (all : List ℕ) (n : ℕ). all ++ n ∷ []) (is.credit bytes) none;
}
  where
    more : List Event
    more = Credit bytes ∷ NextRound ∷ []

-- a credit that it has keeps the bound,
pub keeps-one : (limit : Limit) (credits : List ℕ) (l : Level) (bytes : ℕ) → 0 < limit.rate → IsBehind limit credits l →
    Has l bytes → KeepsBound limit (credits ++ bytes ∷ [])
keeps-one limit credits l bytes some is has =
    subst (KeepsBound limit) (is.credit bytes)
    (kept limit (is.events ++ Credit bytes ∷ []) some
    ((has_each-append limit.round_ticks is.events (Credit bytes ∷ []) (first_level limit)).1
    (is.had, rw is.level (has, tt))))

-- and its reserve is the most that keeps it
pub reserve-most : (limit : Limit) (credits : List ℕ) (l : Level) → 0 < limit.rate → IsBehind limit credits l →
    KeepsBound limit (credits ++ reserve_in l ∷ [])
    × ((bytes : ℕ) → KeepsBound limit (credits ++ bytes ∷ []) → bytes ≤ reserve_in l)
reserve-most limit credits l some is =
    let reserve : IsReserve limit is.events (reserve_in l) =
    subst (λ b. IsReserve limit is.events (reserve_in b)) is.level
    (is-reserve limit is.events (has-each-lawful limit is.events is.had)) in
    elim reserve [
      | inl none ↦ absurd (omega (arith, none.0, some))
      | inr most ↦ (
        subst (KeepsBound limit) (is.credit (reserve_in l)) most.1.keeps,
        λ bytes keeps. most.1.greatest bytes (subst (KeepsBound limit) (sym (is.credit bytes)) keeps),
      )
    ]
