-- Asks: by which word they are, and how many bytes they name.
use Rattle.std.proofs.Common.{◌≡◌, ℕ, zero, suc, ◌+◌, ◌-◌, ◌<◌, ◌≤◌, List, [], ◌∷◌, ◌++◌, length, map, get_or, take, drop, append_assoc, Some, None, refl, ap, sym, subst, ◌∙◌, arith}
use Rattle.std.specs.Prelude.{slice_get, replicate, flat_map}
use Rattle.std.proofs.lemmas.List.{length-map, map-append, drop_more, take_all}
use Rattle.std.proofs.lemmas.List.Elements.{All-from_recursion}
use Rattle.us_flows.specs.Tables.{Tables, FlowTable}
use Rattle.us_flows.specs.Clusters.{Cluster, Word, Requests, Active, clusters_from, flow_of_word, lookup, words_in, words_of}
use Rattle.us_flows.specs.Lawful.{AreTables, IsFlow}
use Rattle.us_flows.specs.declared.found.Found.TheVariants as found
use Rattle.us_flows.specs.declared.flows.SchedulingType.{SchedulingType}
use Rattle.us_flows.specs.declared.flows.SchedulingType.TheVariants.{BestEffort, NonRealTimePolling, RealTimePolling, ActivityDetection, UnsolicitedGrant}
use Rattle.us_flows.proofs.WordLaws.{found_has_words}
use Rattle.us_flows.proofs.WordLemmas.{few_words, few_words-tables, words_by}
use Rattle.us_requests.specs.Asks.{unit_of}
use Rattle.us_requests.specs.Outcomes.{units_of}

-- what stands at a place of a list is within it
get-within : {A : Type 0} → (xs : List A) (place : ℕ) (x : A) → slice_get xs place ≡ Some x → place < length xs
get-within [] place x at = let no : None ≡ Some x = at in cc
get-within (y ∷ ys) zero x at = omega arith
get-within (y ∷ ys) (suc place) x at = omega (arith, get-within ys place x at)

-- the words that a SID leads to are there
pub cluster-within : (t : Tables) (channel sid number : ℕ) → lookup t channel sid ≡ Some (found.Cluster number) →
    number < length (words_of t)
cluster-within t channel sid number is =
    let leads = found_has_words t channel sid (found.Cluster number) is in
    get-within (words_of t) number (Requests leads.0) leads.1

pub activity-within : (t : Tables) (channel sid number : ℕ) → lookup t channel sid ≡ Some (found.Activity number) →
    number + 1 < length (words_of t)
activity-within t channel sid number is =
    let leads = found_has_words t channel sid (found.Activity number) is in
    get-within (words_of t) (number + 1) (Active leads.0) leads.2

-- and few
pub activity-small : (t : Tables) (channel sid number : ℕ) → AreTables t →
    lookup t channel sid ≡ Some (found.Activity number) → number + 1 < 65536
activity-small t channel sid number are is =
    omega (arith, activity-within t channel sid number is, few_words-tables t are)

-- so that a cluster's unit is one of the units of all words
pub unit-within : (t : Tables) (units : List ℕ) (channel sid number : ℕ) → units ≡ units_of t →
    lookup t channel sid ≡ Some (found.Cluster number) → number < length units
unit-within t units channel sid number are is =
    omega (
      arith,
      cluster-within t channel sid number is,
      ap length are,
      length-map (words_of t) (λ word. (flow_of_word word).unit),
    )

-- and stands at its number among them
pub unit-at : (words : List Word) (number d : ℕ) → number < length words →
    get_or (map (λ word. (flow_of_word word).unit) words) number d ≡ unit_of (slice_get words number)
unit-at [] number d within = absurd (omega arith)
unit-at (word ∷ rest) zero d within = refl
unit-at (word ∷ rest) (suc number) d within = unit-at rest number d (omega arith)

pub ruleset words = (cluster-within, activity-small, unit-within, unit-at)

-- the words of a flow have its unit

unit-of-clusters : (flow : FlowTable) (list : ℕ) (sids : List (List ℕ)) →
    map (λ word. (flow_of_word word).unit) (map Requests (clusters_from flow list sids)) ≡
    replicate (length (map Requests (clusters_from flow list sids))) flow.unit
unit-of-clusters flow list [] = refl
unit-of-clusters flow list (first ∷ rest) = ap (λ us. flow.unit ∷ us) (unit-of-clusters flow (list + 1) rest)

unit-of-words : (flow : FlowTable) →
    map (λ word. (flow_of_word word).unit) (words_in flow) ≡ replicate (length (words_in flow)) flow.unit
unit-of-words flow = by flow.kind
  where
    clusters : List Cluster
    clusters = clusters_from flow 0 flow.clusters

    by : (kind : SchedulingType) → map (λ word. (flow_of_word word).unit) (words_by flow kind clusters) ≡
        replicate (length (words_by flow kind clusters)) flow.unit
    by BestEffort = unit-of-clusters flow 0 flow.clusters
    by NonRealTimePolling = unit-of-clusters flow 0 flow.clusters
    by RealTimePolling = unit-of-clusters flow 0 flow.clusters
    by ActivityDetection = refl
    by UnsolicitedGrant = refl

-- the units of the words of some flows
abbrev pub units_in : List FlowTable → List ℕ
units_in flows = map (λ word. (flow_of_word word).unit) (flat_map words_in flows)

units-cons : (flow : FlowTable) (flows : List FlowTable) →
    units_in (flow ∷ flows) ≡ replicate (length (words_in flow)) flow.unit ++ units_in flows
units-cons flow flows =
    map-append (λ word. (flow_of_word word).unit) (words_in flow) (flat_map words_in flows) ∙
    ap (λ us. us ++ units_in flows) (unit-of-words flow)

-- what stands at a place and behind it
pub next-item : {A : Type 0} → (xs : List A) (i : ℕ) (x : A) → i < length xs → x ≡ get_or xs i x →
    drop i xs ≡ x ∷ drop (i + 1) xs
next-item xs i x within is = drop_more xs i x within ∙ ap (λ y. y ∷ drop (i + 1) xs) (sym is)

-- one more flow
pub units-more : (old new all : List ℕ) (flows : List FlowTable) (i size len count unit : ℕ) (flow : FlowTable) →
    i < length flows →
    flow ≡ get_or flows i flow → size ≡ length old → len ≡ length old → count ≡ length (words_in flow) →
    unit ≡ flow.unit →
    new ≡ take (size + count) old ++ replicate (size + count - len) unit → old ++ units_in (drop i flows) ≡ all →
    new ++ units_in (drop (i + 1) flows) ≡ all
units-more old new all flows i size len count unit flow within is long same many each made before =
    let whole : take (size + count) old ≡ old = take_all (size + count) old (omega arith) in
    let more : size + count - len ≡ length (words_in flow) = omega arith in
    let joined : new ≡ old ++ replicate (length (words_in flow)) flow.unit =
    made ∙ ap (λ us. us ++ replicate (size + count - len) unit) whole ∙ ap (λ n. old ++ replicate n unit) more ∙
    ap (λ u. old ++ replicate (length (words_in flow)) u) each in
    ap (λ us. us ++ units_in (drop (i + 1) flows)) joined ∙
    append_assoc old (replicate (length (words_in flow)) flow.unit) (units_in (drop (i + 1) flows)) ∙
    ap (λ us. old ++ us) (sym (units-cons flow (drop (i + 1) flows))) ∙
    ap (λ fs. old ++ units_in fs) (sym (next-item flows i flow within is)) ∙ before

-- which has few words
pub few-more : (t : Tables) (i : ℕ) (flow : FlowTable) → AreTables t → i < length t.flows → flow ≡ get_or t.flows i flow →
    length (words_in flow) ≤ 2
few-more t i flow are within is =
    let all : IsFlow t (get_or t.flows i flow) = All-from_recursion (IsFlow t) t.flows are.flows i flow within in
    let one : IsFlow t flow = subst (IsFlow t) (sym is) all in
    few_words flow one.some_clusters.1
