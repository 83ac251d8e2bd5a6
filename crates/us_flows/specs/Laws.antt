-- Laws of turns and of words.
use Rattle.std.specs.Prelude.{◌≡◌, ◌+◌, ◌==◌, ℕ, count_by, if◌then◌else◌, true, Some, slice_get}
use Rattle.us_flows.specs.Tables.{Tables, FlowTable}
use Rattle.us_flows.specs.Clusters.{Cluster, Turn, IsTurnIn, Word, Requests, Silent, Active, flow_has_sid, has_sid, is_of_cluster, lookup, tells_activity, turns_of, words_before, words_of}
use Rattle.us_flows.specs.declared.found.Found.{Found}
use Rattle.us_flows.specs.declared.found.Found.TheVariants as found

-- a number tells a turn: two turns of the tables that have one number are one turn
abbrev pub OneTurn : Type 0
OneTurn = (t : Tables) (a b : Turn) → IsTurnIn t a → IsTurnIn t b → a.number ≡ b.number → a ≡ b

-- the turns of a round are those of the words of clusters: each of these has one turn, and other words have none
abbrev pub TurnsAreOfClusters : Type 0
TurnsAreOfClusters = (t : Tables) (number : ℕ) (word : Word) → slice_get (words_of t) number ≡ Some word →
    count_by (λ turn. turn.number == number) (turns_of t) ≡ (if is_of_cluster word then 1 else 0)

-- the words of a flow's activity stand behind those of all flows before it, silent first
abbrev pub ActivityHasWords : Type 0
ActivityHasWords = (t : Tables) (place : ℕ) (flow : FlowTable) →
    slice_get t.flows place ≡ Some flow → tells_activity flow.kind ≡ true →
    (slice_get (words_of t) (words_before t.flows place) ≡ Some (Silent flow)) ×
    (slice_get (words_of t) (words_before t.flows place + 1) ≡ Some (Active flow))

-- what a SID asks for leads to words: to that of the cluster that has it, or to both of the flow that has it and tells its
-- activity
abbrev pub LeadsTo : Tables → ℕ → ℕ → Found → Type 0
LeadsTo t channel sid (found.Cluster number) =
    (cluster : Cluster) × (slice_get (words_of t) number ≡ Some (Requests cluster)) × (has_sid channel sid cluster ≡ true)
LeadsTo t channel sid (found.Activity number) =
    (flow : FlowTable) × (slice_get (words_of t) number ≡ Some (Silent flow)) ×
    (slice_get (words_of t) (number + 1) ≡ Some (Active flow)) × (flow_has_sid channel sid flow ≡ true)
LeadsTo t channel sid found.Unsolicited = Unit {0}

abbrev pub FoundHasWords : Type 0
FoundHasWords = (t : Tables) (channel sid : ℕ) (what : Found) → lookup t channel sid ≡ Some what → LeadsTo t channel sid what
