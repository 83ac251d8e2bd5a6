-- SID clusters: which of them make requests, the words by which requests and activity are told, what a SID asks for, and
-- in which order clusters have their turns.
use Rattle.std.specs.Prelude.{◌≡◌, ◌<◌, ℕ, ◌+◌, List, [], ◌∷◌, ◌++◌, length, zip, flat_map, filter, count_by, position, Bool, true, false, not, ◌==◌, nat_lt, ◌&&◌, ◌||◌, if◌then◌else◌, map, Option, Some, None, option_map, take, slice_get}
use Rattle.std.specs.List.{list_any, range_with_len}
use Rattle.std.specs.Option.{option_or}
use Rattle.us_flows.specs.Tables.{Tables, FlowTable}
use Rattle.us_flows.specs.declared.flows.SchedulingType.{SchedulingType}
use Rattle.us_flows.specs.declared.flows.SchedulingType.TheVariants.{BestEffort, NonRealTimePolling, RealTimePolling, ActivityDetection, UnsolicitedGrant}
use Rattle.us_flows.specs.declared.found.Found.{Found}
use Rattle.us_flows.specs.declared.found.Found.TheVariants as found

-- a SID cluster (the standard's): its flow, its place among the flow's clusters, and its SIDs, one for each channel of
-- the flow in order
pub record Cluster : Type 0 where
  pub flow : FlowTable
  pub list : ℕ
  pub sids : List ℕ

-- the clusters of a flow, from its `list`-th on
abbrev pub clusters_from : FlowTable → ℕ → List (List ℕ) → List Cluster
clusters_from flow list [] = []
clusters_from flow list (sids ∷ rest) =
    record { flow = flow; list = list; sids = sids } ∷ clusters_from flow (list + 1) rest

-- whether flows of a scheduling type make requests: all but those with unsolicited grants
abbrev pub makes_requests : SchedulingType → Bool
makes_requests BestEffort = true
makes_requests NonRealTimePolling = true
makes_requests RealTimePolling = true
makes_requests ActivityDetection = false
makes_requests UnsolicitedGrant = false

-- and whether they are polled, or have unsolicited grants, at intervals: all but best effort
abbrev pub has_intervals : SchedulingType → Bool
has_intervals BestEffort = false
has_intervals NonRealTimePolling = true
has_intervals RealTimePolling = true
has_intervals ActivityDetection = true
has_intervals UnsolicitedGrant = true

-- and whether they tell when they fall silent, and when they are active again
abbrev pub tells_activity : SchedulingType → Bool
tells_activity BestEffort = false
tells_activity NonRealTimePolling = false
tells_activity RealTimePolling = false
tells_activity ActivityDetection = true
tells_activity UnsolicitedGrant = false

-- the clusters of a flow that make requests
abbrev pub requesting : FlowTable → List Cluster
requesting flow = if makes_requests flow.kind then clusters_from flow 0 flow.clusters else []

-- all of them in table order
abbrev pub clusters_of : Tables → List Cluster
clusters_of t = flat_map requesting t.flows

-- a word (ours): what in a round is told of one thing. It is what a cluster requests, or that a flow is silent, or that it is
-- active
pub data Word : Type 0 where
  Requests : Cluster → Word
  Silent : FlowTable → Word
  Active : FlowTable → Word

-- the words of a flow: one of each cluster that makes requests, or two of its activity
abbrev pub words_in : FlowTable → List Word
words_in flow =
    if tells_activity flow.kind then Silent flow ∷ Active flow ∷ [] else map Requests (requesting flow)

-- all of them in table order; the number of a word is its place here
abbrev pub words_of : Tables → List Word
words_of t = flat_map words_in t.flows

-- how many words stand before those of the flow at a place: the number of the flow's first one
abbrev pub words_before : List FlowTable → ℕ → ℕ
words_before flows place = length (flat_map words_in (take place flows))

-- the flow of a word
abbrev pub flow_of_word : Word → FlowTable
flow_of_word (Requests cluster) = cluster.flow
flow_of_word (Silent flow) = flow
flow_of_word (Active flow) = flow

-- whether a word is a cluster's
abbrev pub is_of_cluster : Word → Bool
is_of_cluster (Requests cluster) = true
is_of_cluster (Silent flow) = false
is_of_cluster (Active flow) = false

-- whether a cluster has this SID on this channel
abbrev pub has_sid : ℕ → ℕ → Cluster → Bool
has_sid channel sid cluster = list_any (λ pair. (pair.0 == channel) && (pair.1 == sid))
    (zip cluster.flow.channels cluster.sids)

-- whether a flow has it
abbrev pub flow_has_sid : ℕ → ℕ → FlowTable → Bool
flow_has_sid channel sid flow = list_any (has_sid channel sid) (clusters_from flow 0 flow.clusters)

-- whether a word is what the cluster with this SID requests, or tells the activity of the flow with this SID
abbrev pub is_requested_by : ℕ → ℕ → Word → Bool
is_requested_by channel sid (Requests cluster) = has_sid channel sid cluster
is_requested_by channel sid (Silent flow) = false
is_requested_by channel sid (Active flow) = false

abbrev pub is_activity_of : ℕ → ℕ → Word → Bool
is_activity_of channel sid (Requests cluster) = false
is_activity_of channel sid (Silent flow) = flow_has_sid channel sid flow
is_activity_of channel sid (Active flow) = flow_has_sid channel sid flow

-- whether a flow without words, which has unsolicited grants at all times, has this SID on this channel
abbrev pub is_unsolicited : ℕ → ℕ → FlowTable → Bool
is_unsolicited channel sid flow =
    (not (makes_requests flow.kind) && not (tells_activity flow.kind)) && flow_has_sid channel sid flow

-- what a SID asks for on a channel: its cluster's word, or else the first word of its flow's activity, each by its number,
-- or else an unsolicited grant
abbrev pub found_among : List FlowTable → ℕ → ℕ → Option Found
found_among flows channel sid =
    option_or (option_map found.Cluster (position (is_requested_by channel sid) (flat_map words_in flows)))
    (option_or (option_map found.Activity (position (is_activity_of channel sid) (flat_map words_in flows)))
    (if list_any (is_unsolicited channel sid) flows then Some found.Unsolicited else None))

unfoldable pub lookup : Tables → ℕ → ℕ → Option Found
lookup t channel sid = found_among t.flows channel sid

-- a turn of a round (ours): a cluster, the number of its word, and the place of its flow among the flows
pub record Turn : Type 0 where
  pub number : ℕ
  pub place : ℕ
  pub cluster : Cluster

-- the turns of clusters of the flow at a place, of which the first has the word of this number
abbrev pub turns_for : ℕ → ℕ → List Cluster → List Turn
turns_for place number [] = []
turns_for place number (cluster ∷ rest) =
    record { number = number; place = place; cluster = cluster } ∷ turns_for place (number + 1) rest

-- and of flows, of which the first is at a place
abbrev pub turns_from : ℕ → ℕ → List FlowTable → List Turn
turns_from place number [] = []
turns_from place number (flow ∷ flows) =
    turns_for place number (requesting flow) ++ turns_from (place + 1) (number + length (words_in flow)) flows

-- all clusters that make requests, in table order, with the numbers of their words
abbrev pub table_order : Tables → List Turn
table_order t = turns_from 0 0 t.flows

-- whether a turn goes before another: by priority falling, then by flow id rising, then by the place in the flow
abbrev pub goes_before : Turn → Turn → Bool
goes_before a b =
    let f : FlowTable = a.cluster.flow in
    let g : FlowTable = b.cluster.flow in
    nat_lt g.priority f.priority || ((f.priority == g.priority)
    && (nat_lt f.id g.id || ((f.id == g.id) && nat_lt a.cluster.list b.cluster.list)))

-- turns in order: at each place stands the one that so many others go before
abbrev pub in_order : List Turn → List Turn
in_order turns =
    flat_map (λ place. filter (λ turn. count_by (λ other. goes_before other turn) turns == place) turns)
    (range_with_len 0 (length turns))

-- the turns of each round
unfoldable pub turns_of : Tables → List Turn
turns_of t = in_order (table_order t)

-- the turn of a cluster of these tables that makes requests: its places lead to it, and its number to the cluster's word,
-- and says how many words stand before that
pub record IsTurnIn (t : Tables) (turn : Turn) : Type 0 where
  pub flow : slice_get t.flows turn.place ≡ Some turn.cluster.flow
  pub requests : makes_requests turn.cluster.flow.kind ≡ true
  pub sids : slice_get turn.cluster.flow.clusters turn.cluster.list ≡ Some turn.cluster.sids
  pub word : slice_get (words_of t) turn.number ≡ Some (Requests turn.cluster)
  pub number : turn.number < length (words_of t)
  pub before : turn.number ≡ words_before t.flows turn.place + turn.cluster.list
