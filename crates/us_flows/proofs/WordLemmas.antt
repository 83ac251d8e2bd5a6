-- The words of flows: those of a flow by its type, and how many there are.
use Rattle.std.proofs.Common.{◌≡◌, ℕ, ◌+◌, ◌*◌, ◌<◌, ◌≤◌, List, [], ◌∷◌, ◌++◌, length, map, take, drop, get_or, flat_map, true, false, if◌then◌else◌, refl, sym, ap, ◌∙◌, arith}
use Rattle.std.specs.List.{AllByRecursion}
use Rattle.std.proofs.lemmas.Grind.{flat_map-append}
use Rattle.std.proofs.lemmas.List.{length-append, length-map, drop_more, take_more, take-append-drop}
use Rattle.us_flows.specs.Tables.{Tables, FlowTable}
use Rattle.us_flows.specs.Clusters.{Cluster, Word, Requests, Silent, Active, clusters_from, makes_requests, tells_activity, words_in, words_of}
use Rattle.us_flows.specs.Ranges.{max_clusters}
use Rattle.us_flows.specs.Lawful.{AreTables, IsFlow}
use Rattle.us_flows.specs.declared.flows.SchedulingType.{SchedulingType}
use Rattle.us_flows.specs.declared.flows.SchedulingType.TheVariants.{BestEffort, NonRealTimePolling, RealTimePolling, ActivityDetection, UnsolicitedGrant}

-- the words of a flow of a type with these clusters
abbrev pub words_by : FlowTable → SchedulingType → List Cluster → List Word
words_by flow kind clusters =
    if tells_activity kind then Silent flow ∷ Active flow ∷ []
    else map Requests (if makes_requests kind then clusters else [])

pub words-requests : (flow : FlowTable) → makes_requests flow.kind ≡ true →
    words_in flow ≡ map Requests (clusters_from flow 0 flow.clusters)
words-requests flow makes = by flow.kind makes
  where
    by : (kind : SchedulingType) → makes_requests kind ≡ true →
        words_by flow kind (clusters_from flow 0 flow.clusters) ≡ map Requests (clusters_from flow 0 flow.clusters)
    by BestEffort makes = refl
    by NonRealTimePolling makes = refl
    by RealTimePolling makes = refl
    by ActivityDetection makes = let no : false ≡ true = makes in cc
    by UnsolicitedGrant makes = let no : false ≡ true = makes in cc

pub words-activity : (flow : FlowTable) → tells_activity flow.kind ≡ true →
    words_in flow ≡ Silent flow ∷ Active flow ∷ []
words-activity flow tells =
    ap (λ b. if b then Silent flow ∷ Active flow ∷ []
    else map Requests (if makes_requests flow.kind then clusters_from flow 0 flow.clusters else [])) tells

-- how many

pub length-clusters_from : (flow : FlowTable) (list : ℕ) (clusters : List (List ℕ)) →
    length (clusters_from flow list clusters) ≡ length clusters
length-clusters_from flow list [] = refl
length-clusters_from flow list (sids ∷ rest) = omega (arith, length-clusters_from flow (list + 1) rest)

pub length-requests : (cs : List Cluster) → length (map Requests cs) ≡ length cs
length-requests cs = length-map cs Requests

pub length-words : (flow : FlowTable) → makes_requests flow.kind ≡ true → length (words_in flow) ≡ length flow.clusters
length-words flow makes =
    ap length (words-requests flow makes) ∙ length-requests (clusters_from flow 0 flow.clusters) ∙
    length-clusters_from flow 0 flow.clusters

pub few_words : (flow : FlowTable) → length flow.clusters ≤ 2 → length (words_in flow) ≤ 2
few_words flow few = by flow.kind
  where
    all : length (map Requests (clusters_from flow 0 flow.clusters)) ≤ 2
    all = omega (
      arith,
      length-requests (clusters_from flow 0 flow.clusters),
      length-clusters_from flow 0 flow.clusters,
      few,
    )

    by : (kind : SchedulingType) → length (words_by flow kind (clusters_from flow 0 flow.clusters)) ≤ 2
    by BestEffort = all
    by NonRealTimePolling = all
    by RealTimePolling = all
    by ActivityDetection = omega arith
    by UnsolicitedGrant = omega arith

pub few_words-flows : (t : Tables) (flows : List FlowTable) → AllByRecursion (IsFlow t) flows →
    length (flat_map words_in flows) ≤ 2 * length flows
few_words-flows t [] all = omega arith
few_words-flows t (flow ∷ flows) all =
    omega (
      arith,
      length-append (words_in flow) (flat_map words_in flows),
      few_words flow all.0.some_clusters.1,
      few_words-flows t flows all.1,
    )

-- for the crates above
pub few_words-tables : (t : Tables) → AreTables t → length (words_of t) ≤ max_clusters
few_words-tables t are = omega (arith, few_words-flows t t.flows are.flows, are.few_flows)

-- as flows are counted

-- the words of the flows up to a place, and those of the one there, are some of all
pub words_below : (flows : List FlowTable) (place : ℕ) (flow d : FlowTable) → place < length flows →
    flow ≡ get_or flows place d →
    length (flat_map words_in (take place flows)) + length (words_in flow) ≤ length (flat_map words_in flows)
words_below flows place flow d within is =
    let rest : List FlowTable = drop (place + 1) flows in
    let all : flat_map words_in (take place flows) ++ (words_in flow ++ flat_map words_in rest) ≡ flat_map words_in flows =
    sym (flat_map-append words_in (take place flows) (flow ∷ rest)) ∙
    ap (λ f. flat_map words_in (take place flows ++ f ∷ rest)) is ∙
    ap (λ left. flat_map words_in (take place flows ++ left)) (sym (drop_more flows place d within)) ∙
    ap (flat_map words_in) (take-append-drop place flows) in
    omega (
      arith,
      sym (ap length all),
      length-append (flat_map words_in (take place flows)) (words_in flow ++ flat_map words_in rest),
      length-append (words_in flow) (flat_map words_in rest),
    )

pub words-next : (flows : List FlowTable) (place : ℕ) (flow d : FlowTable) → place < length flows →
    flow ≡ get_or flows place d →
    length (flat_map words_in (take (place + 1) flows)) ≡
    length (flat_map words_in (take place flows)) + length (words_in flow)
words-next flows place flow d within is =
    let next : take (place + 1) flows ≡ take place flows ++ flow ∷ [] =
    take_more flows place d within ∙ ap (λ f. take place flows ++ f ∷ []) (sym is) in
    ap (λ fs. length (flat_map words_in fs)) next ∙ ap length (flat_map-append words_in (take place flows) (flow ∷ [])) ∙
    length-append (flat_map words_in (take place flows)) (flat_map words_in (flow ∷ [])) ∙
    ap (λ n. length (flat_map words_in (take place flows)) + n) (length-append (words_in flow) [] ∙ omega arith)
