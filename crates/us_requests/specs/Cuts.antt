-- Cuts: how many bytes are asked for in a round by each word. A cut is a sum over the requests of the trace, in whatever
-- order they stand.
use Rattle.std.specs.Prelude.{◌≡◌, ℕ, ◌+◌, ◌*◌, List, map, filter, sum_by, Bool, false, ◌==◌, ◌&&◌, nat_lt, Option, Some, slice_get, length}
use Rattle.std.specs.List.{range_with_len}
use Rattle.std.specs.List.Sorted.{IsPermutation}
use Rattle.us_flows.specs.Tables.{Tables}
use Rattle.us_flows.specs.Clusters.{words_of, lookup}
use Rattle.us_flows.specs.declared.found.Found.{Found}
use Rattle.us_flows.specs.declared.found.Found.TheVariants as found
use Rattle.us_requests.specs.declared.asks.Ask.{Ask}
use Rattle.us_requests.specs.declared.requests.Kind.{Kind}
use Rattle.us_requests.specs.declared.requests.Kind.TheVariants as kinds
use Rattle.us_requests.specs.Asks.{Request, round_of_tick, unit_of, counts_of}

-- whether a request of a kind, by what was found of its SID, asks by the word of a number
abbrev pub asks_by : ℕ → Kind → Option Found → Bool
asks_by word kinds.Request (Some (found.Cluster number)) = number == word
asks_by word kinds.Silent (Some (found.Activity number)) = number == word
asks_by word kinds.Active (Some (found.Activity number)) = number + 1 == word
asks_by word other found = false

-- whether a request is an ask by a word in a round: the SID leads to it on that channel, and the round is the request's
-- and one of the run
abbrev pub is_ask : Tables → ℕ → ℕ → ℕ → Request → Bool
is_ask t rounds round word q =
    asks_by word q.kind (lookup t q.channel q.sid) && ((round_of_tick t q.tick == round) && nat_lt round rounds)

-- its bytes: those of its units, or one for a mark
abbrev pub bytes_by : Tables → ℕ → Kind → ℕ → ℕ
bytes_by t word kinds.Request units = units * unit_of (slice_get (words_of t) word)
bytes_by t word kinds.Silent units = 1
bytes_by t word kinds.Active units = 1

-- the bytes that are asked for by a word in a round
unfoldable pub cut : Tables → ℕ → List Request → ℕ → ℕ → ℕ
cut t rounds requests round word =
    sum_by (λ q. bytes_by t word q.kind q.units) (filter (is_ask t rounds round word) requests)

-- those of each word, by its number
unfoldable pub cut_at : Tables → ℕ → List Request → ℕ → List ℕ
cut_at t rounds requests round = map (cut t rounds requests round) (range_with_len 0 (length (words_of t)))

-- Sums of asks.

-- the bytes that some asks name of a word
abbrev pub asked : List Ask → ℕ → ℕ
asked asks word = sum_by (λ ask. ask.bytes) (filter (λ ask. ask.cluster == word) asks)

-- the cut that some asks come to, for so many words
unfoldable pub cut_of : ℕ → List Ask → List ℕ
cut_of words asks = map (asked asks) (range_with_len 0 words)

-- the law of order: the same requests in another order have the same cuts and the same counts
abbrev pub OrderIsNothing : Type 0
OrderIsNothing =
    (t : Tables) (rounds : ℕ) (requests others : List Request) → IsPermutation requests others →
    ((round : ℕ) → cut_at t rounds others round ≡ cut_at t rounds requests round)
    × (counts_of t rounds others ≡ counts_of t rounds requests)
