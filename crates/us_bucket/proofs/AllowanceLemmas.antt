-- The laws of the bucket, and how events are joined.
use Rattle.std.proofs.Common.{◌≡◌, ℕ, ◌+◌, ◌-◌, ◌/◌, ◌<◌, List, [], ◌∷◌, ◌++◌, Option, Some, None, refl, ap, ◌∙◌, inl, inr, add-one, arith, drop, get_or, subst, length}
use Rattle.std.specs.Prelude.{◌↔◌, unwrap_or}
use Rattle.std.proofs.lemmas.Bool.{cases_lt}
use Rattle.std.proofs.lemmas.List.{drop_more}
use Rattle.us_bucket.specs.Levels.{Level, units_per_byte, refilled, spent, bytes_in, reserve_in, Has}
use Rattle.us_bucket.specs.Allowances.{Limit, KeepsBound, AreLawful, IsAllowance, IsLimitedTo, IsReserve}
use Rattle.us_bucket.specs.Spans.{credits_from, credits_of}
use Rattle.us_bucket.specs.Laws.{level_after, HasEach, first_level, BucketKeepsBound, BucketIsAllowance, BucketIsReserve}
use Rattle.us_bucket.specs.declared.events.Event.{Event}
use Rattle.us_bucket.specs.declared.events.Event.TheVariants.{NextRound, Credit}
use Rattle.us_bucket.proofs.LevelLemmas.{spent-rate, refilled-rate, bytes_in-limited, bytes_in-unlimited, unlimited-has}
use Rattle.us_bucket.proofs.SpanLemmas.{full-of, after-of, KeepsSpans, every-span, kept-has}

-- Two ways to name a span.

bound-spans : (limit : Limit) (credits : List ℕ) → KeepsBound limit credits → KeepsSpans limit credits
bound-spans limit credits keeps i later within =
    let same : i + later - i ≡ later = omega arith in
    let bound = keeps i (i + later) (omega arith) within in
    let named = rw (same, add-one later) at bound in
    named

spans-bound : (limit : Limit) (credits : List ℕ) → KeepsSpans limit credits → KeepsBound limit credits
spans-bound limit credits keeps i j order within = rw add-one (keeps i (j - i) (omega arith))

-- The bound is what the bucket has.

pub kept : (limit : Limit) (events : List Event) → 0 < limit.rate →
    HasEach limit.round_ticks events (first_level limit) → KeepsBound limit (credits_of events)
kept limit events some has =
    spans-bound limit (credits_of events) (λ i later within.
    every-span limit events (first_level limit) 0 i later some (full-of limit) (omega arith) has within)

pub had : (limit : Limit) (events : List Event) → 0 < limit.rate → KeepsBound limit (credits_of events) →
    HasEach limit.round_ticks events (first_level limit)
had limit events some keeps =
    let spans = bound-spans limit (credits_of events) keeps in
    kept-has limit events (first_level limit) 0 0 0 some (full-of limit) (omega arith)
    (λ later within. omega (arith, spans 0 later (omega arith))) spans

pub keeps-bound : BucketKeepsBound
keeps-bound limit events some = (kept limit events some, had limit events some)

-- without a limit the bucket has all
pub unlimited-has-each : (ticks : ℕ) (events : List Event) (l : Level) → l.rate ≡ 0 → HasEach ticks events l
unlimited-has-each ticks [] l none = tt
unlimited-has-each ticks (NextRound ∷ events) l none =
    unlimited-has-each ticks events (refilled ticks l) (refilled-rate ticks l ∙ none)
unlimited-has-each ticks (Credit bytes ∷ events) l none =
    (unlimited-has bytes l none, unlimited-has-each ticks events (spent bytes l) (spent-rate bytes l ∙ none))

pub lawful-has-each : (limit : Limit) (events : List Event) → AreLawful limit events →
    HasEach limit.round_ticks events (first_level limit)
lawful-has-each limit events lawful =
    elim (cases_lt 0 limit.rate) [
      | inl some ↦ had limit events some (lawful some)
      | inr none ↦ unlimited-has-each limit.round_ticks events (first_level limit) (omega arith)
    ]

pub has-each-lawful : (limit : Limit) (events : List Event) →
    HasEach limit.round_ticks events (first_level limit) → AreLawful limit events
has-each-lawful limit events has = λ some. kept limit events some has

-- Events in two parts.

pub level_after-append : (ticks : ℕ) (events more : List Event) (l : Level) →
    level_after ticks (events ++ more) l ≡ level_after ticks more (level_after ticks events l)
level_after-append ticks [] more l = refl
level_after-append ticks (NextRound ∷ events) more l = level_after-append ticks events more (refilled ticks l)
level_after-append ticks (Credit bytes ∷ events) more l = level_after-append ticks events more (spent bytes l)

pub has_each-append : (ticks : ℕ) (events more : List Event) (l : Level) →
    HasEach ticks (events ++ more) l ↔ (HasEach ticks events l × HasEach ticks more (level_after ticks events l))
has_each-append ticks [] more l = (λ has. (tt, has), λ has. has.1)
has_each-append ticks (NextRound ∷ events) more l = has_each-append ticks events more (refilled ticks l)
has_each-append ticks (Credit bytes ∷ events) more l =
    let rest = has_each-append ticks events more (spent bytes l) in
    (λ has. let parts = rest.0 has.1 in ((has.0, parts.0), parts.1), λ has. (has.0.0, rest.1 (has.0.1, has.1)))

-- a credit that comes next is in the bucket
pub next-had : (ticks : ℕ) (events : List Event) (i bytes : ℕ) (l : Level) → i < length events →
    get_or events i NextRound ≡ Credit bytes → HasEach ticks (drop i events) l → Has l bytes
next-had ticks events i bytes l within is has =
    let next : drop i events ≡ Credit bytes ∷ drop (i + 1) events =
    drop_more events i NextRound within ∙ ap (λ event. event ∷ drop (i + 1) events) is in
    (subst (λ (rest : List Event). HasEach ticks rest l) next has).0

-- the credits of rounds, and of rounds after them
pub credits-join : (first : ℕ) (events more : List Event) →
    credits_from first (events ++ NextRound ∷ more) ≡ credits_from first events ++ credits_from 0 more
credits-join first [] more = refl
credits-join first (NextRound ∷ events) more = ap (λ rest. first ∷ rest) (credits-join 0 events more)
credits-join first (Credit bytes ∷ events) more = credits-join (first + bytes) events more

-- one round more, in which so many bytes are granted at once
pub round-more : (ticks : ℕ) (events : List Event) (bytes : ℕ) (first l : Level) → HasEach ticks events first →
    level_after ticks events first ≡ l → Has (refilled ticks l) bytes →
    HasEach ticks (events ++ NextRound ∷ Credit bytes ∷ []) first
    × (level_after ticks (events ++ NextRound ∷ Credit bytes ∷ []) first ≡ spent bytes (refilled ticks l))
    × (credits_of (events ++ NextRound ∷ Credit bytes ∷ []) ≡ credits_of events ++ bytes ∷ [])
round-more ticks events bytes first l each is has =
    let more = NextRound ∷ Credit bytes ∷ [] in
    let none : 0 + bytes ≡ bytes = omega arith in (
      (has_each-append ticks events more first).1 (each, rw is (has, tt)),
      level_after-append ticks events more first ∙ ap (λ l. spent bytes (refilled ticks l)) is,
      credits-join 0 events (Credit bytes ∷ []) ∙ ap (λ b. credits_of events ++ b ∷ []) none,
    )

-- What the bucket holds is the allowance.

holds-allowance : (limit : Limit) (events : List Event) (l : Level) → 0 < limit.rate →
    HasEach limit.round_ticks events (first_level limit) →
    level_after limit.round_ticks events (first_level limit) ≡ l →
    bytes_in l ≡ Some (l.units / units_per_byte) → IsAllowance limit events (l.units / units_per_byte)
holds-allowance limit events l some has is holds =
    record {
      keeps =
          let now : Has l (l.units / units_per_byte) = rw holds (omega arith) in
          let last = Credit (l.units / units_per_byte) ∷ [] in
          kept limit (events ++ last) some
          ((has_each-append limit.round_ticks events last (first_level limit)).1 (has, rw is (now, tt)));
      greatest = λ bytes keeps.
          let last = Credit bytes ∷ [] in
          let each = had limit (events ++ last) some keeps in
          let now = (has_each-append limit.round_ticks events last (first_level limit)).0 each in
          let here : Has l bytes = (rw is at now.1).0 in
          rw holds at here;
    }

pub is-allowance : BucketIsAllowance
is-allowance limit events lawful =
    let l = level_after limit.round_ticks events (first_level limit) in
    let of = after-of limit events (first_level limit) limit.round_ticks (full-of limit) in
    elim (cases_lt 0 limit.rate) [
      | inl some ↦
          let holds = bytes_in-limited l (omega (arith, of.rate)) in
          rw holds (some, holds-allowance limit events l some (had limit events some (lawful some)) refl holds)
      | inr none ↦ rw (bytes_in-unlimited l (omega (arith, of.rate))) (omega arith)
    ]

-- What the bucket of a minimum rate holds is the reserve.

-- an allowance, read as nothing where there is no limit
pub limited-reserve : (limit : Limit) (events : List Event) (allowed : Option ℕ) → IsLimitedTo limit events allowed →
    IsReserve limit events (unwrap_or allowed 0)
limited-reserve limit events (Some most) is = inr is
limited-reserve limit events None is = inl (is, refl)

pub is-reserve : BucketIsReserve
unfolding reserve_in
is-reserve limit events lawful =
    let l = level_after limit.round_ticks events (first_level limit) in
    limited-reserve limit events (bytes_in l) (is-allowance limit events lawful)
