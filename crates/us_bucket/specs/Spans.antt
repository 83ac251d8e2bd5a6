-- The bytes that are credited to a flow, or planned first: in each round, by what happened, and over a span of rounds.
use Rattle.std.specs.Prelude.{ℕ, ◌+◌, ◌-◌, List, [], ◌∷◌, take, drop, sum}
use Rattle.us_bucket.specs.declared.events.Event.{Event}
use Rattle.us_bucket.specs.declared.events.Event.TheVariants.{NextRound, Credit}

-- the bytes credited in each round, in order, where `first` bytes of the first round were counted before
abbrev pub credits_from : ℕ → List Event → List ℕ
credits_from first [] = first ∷ []
credits_from first (NextRound ∷ events) = first ∷ credits_from 0 events
credits_from first (Credit bytes ∷ events) = credits_from (first + bytes) events

-- the bytes credited in each round, from round 0 to the present one
abbrev pub credits_of : List Event → List ℕ
credits_of events = credits_from 0 events

-- the bytes credited in rounds i to j
abbrev pub credited : List ℕ → ℕ → ℕ → ℕ
credited credits i j = sum (take (j - i + 1) (drop i credits))
