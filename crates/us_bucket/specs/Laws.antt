-- The laws of the bucket: it lets through what keeps the bound, and holds what may be credited, or what is reserved.
use Rattle.std.specs.Prelude.{ℕ, ◌≤◌, ◌<◌, ◌↔◌, List, [], ◌∷◌}
use Rattle.us_bucket.specs.Levels.{Level, full, refilled, spent, bytes_in, reserve_in, Has}
use Rattle.us_bucket.specs.Allowances.{Limit, KeepsBound, AreLawful, IsLimitedTo, IsReserve}
use Rattle.us_bucket.specs.Spans.{credits_of}
use Rattle.us_bucket.specs.declared.events.Event.{Event}
use Rattle.us_bucket.specs.declared.events.Event.TheVariants.{NextRound, Credit}

-- the level after some events, where a round has so many ticks
abbrev pub level_after : ℕ → List Event → Level → Level
level_after ticks [] l = l
level_after ticks (NextRound ∷ events) l = level_after ticks events (refilled ticks l)
level_after ticks (Credit bytes ∷ events) l = level_after ticks events (spent bytes l)

-- the bucket has the bytes of each credit when it comes
abbrev pub HasEach : ℕ → List Event → Level → Type 0
HasEach ticks [] l = Unit {0}
HasEach ticks (NextRound ∷ events) l = HasEach ticks events (refilled ticks l)
HasEach ticks (Credit bytes ∷ events) l = Has l bytes × HasEach ticks events (spent bytes l)

-- the bucket of a limit in round 0
abbrev pub first_level : Limit → Level
first_level limit = full limit.rate limit.burst

-- under a limit, credits whose bytes the bucket has are those that keep the bound
abbrev pub BucketKeepsBound : Type 0
BucketKeepsBound =
    (limit : Limit) (events : List Event) → 0 < limit.rate →
    HasEach limit.round_ticks events (first_level limit) ↔ KeepsBound limit (credits_of events)

-- after lawful credits, the whole bytes in the bucket are what the flow is limited to
abbrev pub BucketIsAllowance : Type 0
BucketIsAllowance =
    (limit : Limit) (events : List Event) → AreLawful limit events →
    IsLimitedTo limit events (bytes_in (level_after limit.round_ticks events (first_level limit)))

-- after lawful plans, the bucket of a minimum rate has in it what is reserved
abbrev pub BucketIsReserve : Type 0
BucketIsReserve =
    (limit : Limit) (events : List Event) → AreLawful limit events →
    IsReserve limit events (reserve_in (level_after limit.round_ticks events (first_level limit)))

-- whatever is reserved can be spent
abbrev pub BucketHasReserve : Type 0
BucketHasReserve = (l : Level) (bytes : ℕ) → bytes ≤ reserve_in l → Has l bytes
