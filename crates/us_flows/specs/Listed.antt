-- Tables in their order, as maps from their ids keep them, and an index of SIDs. Nothing of this is seen from outside.
use Rattle.std.specs.Prelude.{◌≡◌, ℕ, ◌+◌, ◌*◌, ◌≤◌, false, List, [], ◌∷◌, ◌++◌, length, map, zip, flat_map}
use Rattle.std.specs.Map.{values_of}
use Rattle.us_flows.specs.Tables.{FlowTable, sids_of}
use Rattle.us_flows.specs.Clusters.{words_in}
use Rattle.us_flows.specs.Checks.{same_sid, repeats}
use Rattle.us_flows.specs.declared.flows.SchedulingType.{SchedulingType}
use Rattle.us_flows.specs.declared.flows.SchedulingType.TheVariants.{BestEffort, NonRealTimePolling, RealTimePolling, ActivityDetection, UnsolicitedGrant}
use Rattle.us_flows.specs.declared.found.Found.{Found}
use Rattle.us_flows.specs.declared.found.Found.TheVariants as found

-- a table as entries of a map, each item behind its id
abbrev pub by_id : {X : Type 0} → (X → ℕ) → List X → List (ℕ × X)
by_id id items = map (λ item. (id item, item)) items

-- what the SIDs of a cluster ask for, by the number of the flow's first word, and that of the cluster's if it makes requests
abbrev pub asks : SchedulingType → ℕ → ℕ → Found
asks BestEffort first number = found.Cluster number
asks NonRealTimePolling first number = found.Cluster number
asks RealTimePolling first number = found.Cluster number
asks ActivityDetection first number = found.Activity first
asks UnsolicitedGrant first number = found.Unsolicited

-- an entry of the index: a SID behind its channel, and what it asks for
abbrev pub Asked : Type 0
Asked = (ℕ × ℕ) × Found

-- the entries of clusters, of which the first has this number
abbrev pub asked_from : (ℕ → Found) → ℕ → List ℕ → List (List ℕ) → List Asked
asked_from found number channels [] = []
asked_from found number channels (sids ∷ rest) =
    map (λ sid. (sid, found number)) (zip channels sids) ++ asked_from found (number + 1) channels rest

-- those of a flow whose first word has this number, and of flows
abbrev pub asked_of : ℕ → FlowTable → List Asked
asked_of number flow = asked_from (asks flow.kind number) number flow.channels flow.clusters

abbrev pub asked_by : ℕ → List FlowTable → List Asked
asked_by number [] = []
asked_by number (flow ∷ flows) = asked_of number flow ++ asked_by (number + length (words_in flow)) flows

-- a map of flows by their ids, the index of their SIDs, and how many words they have
pub record AreIndexed (entries : List (ℕ × FlowTable)) (index : List Asked) (count : ℕ) : Type 0 where
  pub flows : entries ≡ by_id (λ flow. flow.id) (values_of entries)
  pub sids : index ≡ asked_by 0 (values_of entries)
  pub apart : repeats same_sid (flat_map sids_of (values_of entries)) ≡ false
  pub words : count ≡ length (flat_map words_in (values_of entries))
  pub few : count ≤ 2 * length (values_of entries)
