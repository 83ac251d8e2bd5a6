-- Clusters that make requests, by the ids of their flows and their places among the flow's clusters. What lines tell of them
-- and a trace asks for goes by their words.
use Rattle.std.specs.Prelude.{◌≡◌, ℕ, ◌+◌, ◌*◌, ◌<◌, ◌≤◌, ◌==◌, ◌&&◌, Bool, false, List, length, slice_get, slice_index_or, option_and_then, Option, Some, None, find}
use Rattle.std.specs.List.{AllByRecursion}
use Rattle.us_flows.specs.Clusters.{Turn}

-- a line that tells this id and this place names the cluster
abbrev pub names : ℕ → ℕ → Turn → Bool
names id list turn = (id == turn.cluster.flow.id) && (list == turn.cluster.list)

-- the word of a cluster that was found, and the place of its flow among the flows
abbrev pub word_in : Option Turn → Option ℕ
word_in None = None
word_in (Some turn) = Some turn.number

abbrev pub flow_in : Option Turn → Option ℕ
flow_in None = None
flow_in (Some turn) = Some turn.place

-- the word of the cluster that a line names, if it names one
abbrev pub word_of : ℕ → ℕ → List Turn → Option ℕ
word_of id list turns = word_in (find (names id list) turns)

-- a number that was found is this one
abbrev pub is_number : ℕ → Option ℕ → Bool
is_number n None = false
is_number n (Some k) = k == n

-- clusters of flows with ids of 16 bits, of which each has two at most, and so many that their places have 16 bits
pub record AreSeats (turns : List Turn) : Type 0 where
  pub ids : AllByRecursion (λ turn. turn.cluster.flow.id < 65536) turns
  pub lists : AllByRecursion (λ turn. turn.cluster.list < 2) turns
  pub few : length turns ≤ 65536

-- id and place as one number
abbrev pub code_of : Turn → ℕ
code_of turn = turn.cluster.flow.id * 2 + turn.cluster.list

-- the places of such clusters stand at these
abbrev pub ArePlaces : List Turn → List (Option ℕ) → Type 0
ArePlaces turns places =
    (code : ℕ) → option_and_then (slice_get turns) (slice_index_or places code None)
    ≡ find (λ turn. code_of turn == code) turns

pub record IsIndex (turns : List Turn) (places : List (Option ℕ)) : Type 0 where
  pub seats : AreSeats turns
  pub found : ArePlaces turns places

-- each has its word among so many, and a line names it just where it has the word of what the line names
pub record AreNamed (words : ℕ) (turns : List Turn) : Type 0 where
  pub inside : AllByRecursion (λ turn. turn.number < words) turns
  pub named : (id list : ℕ) →
      AllByRecursion (λ turn. names id list turn ≡ is_number turn.number (word_of id list turns)) turns
