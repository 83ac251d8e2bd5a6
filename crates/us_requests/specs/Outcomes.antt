-- Inside the crate: what becomes of a request of a trace, and what it adds to the asks and counts.
use Rattle.std.specs.Prelude.{◌≡◌, ℕ, ◌+◌, ◌<◌, ◌≤◌, List, [], ◌∷◌, map, length, Some, None}
use Rattle.std.specs.List.{AllByRecursion}
use Rattle.us_flows.specs.Tables.{Tables}
use Rattle.us_flows.specs.Clusters.{flow_of_word, words_of, lookup}
use Rattle.us_flows.specs.declared.found.Found.{Found}
use Rattle.us_requests.specs.declared.placed.PlacedAsk.{PlacedAsk}
use Rattle.us_requests.specs.declared.asks.Ask.{Ask}
use Rattle.us_requests.specs.declared.asks.Counts.{Counts}
use Rattle.us_requests.specs.declared.known_sids.KnownSid.{KnownSid}
use Rattle.us_requests.specs.declared.outcomes.Outcome.{Outcome}
use Rattle.us_requests.specs.declared.outcomes.Outcome.TheVariants as outcome
use Rattle.us_requests.specs.Asks.{Request, round_of_tick, ask_for, ask_of, asks_at, counts_of}
use Rattle.us_requests.specs.Traces.{of_round, max_asks}

-- the bytes of a unit of the requests by each word
abbrev pub units_of : Tables → List ℕ
units_of t = map (λ word. (flow_of_word word).unit) (words_of t)

-- SIDs that are kept, each with what it asks for on its channel
pub record AreKnown (t : Tables) (known : List KnownSid) : Type 0 where
  pub count : length known ≡ 4096
  pub found : AllByRecursion (λ k. k.found ≡ lookup t k.channel k.sid) known

-- what becomes of a request
abbrev pub Becomes : Tables → ℕ → Request → Outcome → Type 0
Becomes t rounds q outcome.Unknown = lookup t q.channel q.sid ≡ None
Becomes t rounds q outcome.NotRequestable =
    (what : Found) × (lookup t q.channel q.sid ≡ Some what) × (ask_for t q.kind q.units (Some what) ≡ None)
Becomes t rounds q outcome.Late =
    (ask : Ask) × (ask_of t q ≡ Some ask) × (rounds ≤ round_of_tick t q.tick)
Becomes t rounds q (outcome.Asked placed) =
    (ask_of t q ≡ Some placed.ask) × (round_of_tick t q.tick ≡ placed.round) × (placed.round < rounds)

-- what a request adds to the asks
abbrev pub added : Outcome → List PlacedAsk
added outcome.Unknown = []
added outcome.NotRequestable = []
added outcome.Late = []
added (outcome.Asked placed) = placed ∷ []

-- and to the counts
abbrev pub counted : Outcome → Counts → Counts
counted outcome.Unknown counts = record counts { unknown = counts.unknown + 1 }
counted outcome.NotRequestable counts = record counts { not_requestable = counts.not_requestable + 1 }
counted outcome.Late counts = record counts { late = counts.late + 1 }
counted (outcome.Asked placed) counts = counts

-- each count can rise by one
pub record HasRoom (counts : Counts) : Type 0 where
  pub unknown : counts.unknown < max_asks
  pub not_requestable : counts.not_requestable < max_asks
  pub late : counts.late < max_asks

-- requests, filed as asks and counts
pub record IsFiled (t : Tables) (rounds : ℕ) (requests : List Request) (placed : List PlacedAsk) (counts : Counts)
    : Type 0 where
  pub asks : (round : ℕ) → of_round placed round ≡ asks_at t rounds requests round
  pub counted : counts ≡ counts_of t rounds requests
  pub few : length placed ≤ length requests
