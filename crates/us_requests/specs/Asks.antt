-- Requests, and marks of activity: in which round one is served, and what it asks for.
use Rattle.std.specs.Prelude.{ℕ, ◌+◌, ◌*◌, ◌<◌, ◌≤◌, ◌↔◌, List, filter_map, count_by, Bool, not, ◌==◌, nat_lt, ◌&&◌, if◌then◌else◌, Option, Some, None, slice_get, is_none}
use Rattle.std.specs.Int.{div_ceil}
use Rattle.us_flows.specs.Tables.{Tables}
use Rattle.us_flows.specs.Clusters.{Word, flow_of_word, words_of, lookup}
use Rattle.us_flows.specs.declared.found.Found.{Found}
use Rattle.us_flows.specs.declared.found.Found.TheVariants as found
use Rattle.us_requests.specs.declared.asks.Ask.{Ask}
use Rattle.us_requests.specs.declared.asks.Counts.{Counts}
use Rattle.us_requests.specs.declared.requests.Kind.{Kind}
use Rattle.us_requests.specs.declared.requests.Kind.TheVariants as kinds

-- a request of the trace: at a tick, on a channel, a SID asks for some units, or marks that it is silent or active
pub record Request : Type 0 where
  pub tick : ℕ
  pub channel : ℕ
  pub sid : ℕ
  pub units : ℕ
  pub kind : Kind

-- the round of a request at a tick: the least that starts no earlier than the lead after it
unfoldable pub round_of_tick : Tables → ℕ → ℕ
round_of_tick t tick = div_ceil (tick + t.lead_ticks) t.round_ticks

-- the law of rounds: no round before it starts as late, and each from it on does
abbrev pub RoundIsLeast : Type 0
RoundIsLeast =
    (t : Tables) → 0 < t.round_ticks → (tick round : ℕ) →
    (round_of_tick t tick ≤ round) ↔ (tick + t.lead_ticks ≤ round * t.round_ticks)

-- the bytes of a unit of the requests by a word
abbrev pub unit_of : Option Word → ℕ
unit_of None = 0
unit_of (Some word) = (flow_of_word word).unit

-- what is asked for, by what was found of the SID: by a request so many units of a cluster, by a mark one byte of the word
-- that stands for it; nothing, where its kind and its SID don't go together
abbrev pub ask_for : Tables → Kind → ℕ → Option Found → Option Ask
ask_for t kinds.Request units (Some (found.Cluster number)) =
    Some (record { cluster = number; bytes = units * unit_of (slice_get (words_of t) number) })
ask_for t kinds.Silent units (Some (found.Activity number)) = Some (record { cluster = number; bytes = 1 })
ask_for t kinds.Active units (Some (found.Activity number)) = Some (record { cluster = number + 1; bytes = 1 })
ask_for t other units found = None

abbrev pub ask_of : Tables → Request → Option Ask
ask_of t q = ask_for t q.kind q.units (lookup t q.channel q.sid)

-- the asks of a round in the order of the trace; none from the end of the run on
unfoldable pub asks_at : Tables → ℕ → List Request → ℕ → List Ask
asks_at t rounds requests round =
    filter_map (λ q. if (round_of_tick t q.tick == round) && nat_lt round rounds then ask_of t q else None) requests

-- how a request counts that is no ask: the first of these that holds
abbrev pub is_unknown : Tables → Request → Bool
is_unknown t q = is_none (lookup t q.channel q.sid)

abbrev pub is_not_requestable : Tables → Request → Bool
is_not_requestable t q = not (is_unknown t q) && is_none (ask_of t q)

abbrev pub is_late : Tables → ℕ → Request → Bool
is_late t rounds q =
    not (is_unknown t q) && (not (is_not_requestable t q) && not (nat_lt (round_of_tick t q.tick) rounds))

unfoldable pub counts_of : Tables → ℕ → List Request → Counts
counts_of t rounds requests = record {
  unknown = count_by (is_unknown t) requests;
  not_requestable = count_by (is_not_requestable t) requests;
  late = count_by (is_late t rounds) requests;
}
