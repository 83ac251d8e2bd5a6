-- Traces: what is known of a trace that was read.
use Rattle.std.specs.Prelude.{◌≡◌, ℕ, ◌*◌, ◌<◌, ◌≤◌, List, [], length, map, filter, sum_by, ◌==◌, ◌⊎◌}
use Rattle.std.specs.List.{AllByRecursion, range_with_len}
use Rattle.us_flows.specs.Tables.{Tables}
use Rattle.us_flows.specs.Clusters.{words_of}
use Rattle.us_requests.specs.declared.asks.Ask.{Ask}
use Rattle.us_requests.specs.declared.asks.Counts.{Counts}
use Rattle.us_requests.specs.declared.placed.PlacedAsk.{PlacedAsk}
use Rattle.us_requests.specs.Asks.{Request, asks_at, counts_of}
use Rattle.us_requests.specs.Cuts.{cut_at, cut_of}

-- a trace: the number of rounds, its asks, each in its round, and how many requests are no asks
pub record TraceAsks : Type 0 where
  pub rounds : ℕ
  pub asks : List PlacedAsk
  pub counts : Counts

-- of some asks those of a round
unfoldable pub of_round : List PlacedAsk → ℕ → List Ask
of_round asks round = map (λ placed. placed.ask) (filter (λ placed. placed.round == round) asks)

abbrev pub asks_in : TraceAsks → ℕ → List Ask
asks_in t round = of_round t.asks round

-- the cuts of all rounds of a trace that was read: what its asks add up to, in bytes by word
unfoldable pub cuts_in : Tables → TraceAsks → List (List ℕ)
cuts_in t v = map (λ round. cut_of (length (words_of t)) (asks_in v round)) (range_with_len 0 v.rounds)

-- no round has more asks than this, and one has as many, if any has one; `asks` says how many a round has
pub record IsMost (asks : ℕ → ℕ) (most : ℕ) : Type 0 where
  pub none_more : (round : ℕ) → asks round ≤ most
  pub one : (most ≡ 0) ⊎ ((round : ℕ) × (asks round ≡ most))

-- the most asks of a trace
abbrev pub max_asks : ℕ
max_asks = 1000000

-- the most bytes of an ask: 65,535 units of 16 bytes
abbrev pub max_ask : ℕ
max_ask = 1048560

-- the most bytes that all asks together name
abbrev pub max_asked : ℕ
max_asked = max_asks * max_ask

-- the asks of the first rounds
abbrev pub asks_before : TraceAsks → ℕ → ℕ
asks_before t rounds = sum_by (λ round. length (asks_in t round)) (range_with_len 0 rounds)

-- the bytes that the first rounds ask for, by all words
abbrev pub asked_before : TraceAsks → ℕ → ℕ
asked_before t rounds = sum_by (λ round. sum_by (λ ask. ask.bytes) (asks_in t round)) (range_with_len 0 rounds)

-- what holds of every trace
pub record IsTrace (t : TraceAsks) : Type 0 where
  pub few : (rounds : ℕ) → asks_before t rounds ≤ max_asks
  pub small : (round : ℕ) → AllByRecursion (λ ask. ask.bytes ≤ max_ask) (asks_in t round)
  pub none_late : (round : ℕ) → t.rounds ≤ round → asks_in t round ≡ []
  pub asked : (rounds : ℕ) → asked_before t rounds ≤ max_asked

-- it is the trace of these requests, for so many rounds
pub record IsTraceOf (tables : Tables) (rounds : ℕ) (requests : List Request) (t : TraceAsks) : Type 0 where
  pub run : t.rounds ≡ rounds
  pub asks : (round : ℕ) → asks_in t round ≡ asks_at tables rounds requests round
  pub counts : t.counts ≡ counts_of tables rounds requests
  -- so each ask names a word that is there, and the asks of a round add up to its cut
  pub known : (round : ℕ) → AllByRecursion (λ ask. ask.cluster < length (words_of tables)) (asks_in t round)
  pub cut : (round : ℕ) → cut_of (length (words_of tables)) (asks_in t round) ≡ cut_at tables rounds requests round
