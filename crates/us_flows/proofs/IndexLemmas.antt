-- The index of SIDs says what `found_among` says.
use Rattle.std.proofs.Common.{◌≡◌, ℕ, ◌+◌, ◌≤◌, List, [], ◌∷◌, ◌++◌, length, map, zip, flat_map, Bool, true, false, not, ◌&&◌, ◌||◌, if◌then◌else◌, Option, Some, None, is_some, option_map, refl, sym, ap, ap₂, ◌∙◌, inl, inr, append_assoc, append-nil, arith}
use Rattle.std.specs.List.{list_any, position_from}
use Rattle.std.specs.Option.{option_or}
use Rattle.std.specs.Map.{lookup, keys_of, values_of}
use Rattle.std.proofs.lemmas.Bool.{cases_Bool, or_parts}
use Rattle.std.proofs.lemmas.List.{map-append, length-append}
use Rattle.std.proofs.lemmas.List.Folds.{list_any-append}
use Rattle.std.proofs.lemmas.List.Concat.{flat_map-append}
use Rattle.std.proofs.lemmas.Iterator.Adapters.{position_from-zero}
use Rattle.indexmap.specs.IndexMap.{insert_all}
use Rattle.us_flows.specs.declared.found.Found.{Found}
use Rattle.us_flows.specs.declared.found.Found.TheVariants as found
use Rattle.us_flows.specs.Tables.{FlowTable, sids_of}
use Rattle.us_flows.specs.Clusters.{Cluster, Word, Requests, Silent, Active, clusters_from, makes_requests, tells_activity, words_in, has_sid, flow_has_sid, is_requested_by, is_activity_of, is_unsolicited, found_among}
use Rattle.us_flows.specs.declared.flows.SchedulingType.{SchedulingType}
use Rattle.us_flows.specs.declared.flows.SchedulingType.TheVariants.{BestEffort, NonRealTimePolling, RealTimePolling, ActivityDetection, UnsolicitedGrant}
use Rattle.us_flows.specs.Checks.{same_sid, repeats, is_taken}
use Rattle.us_flows.specs.Listed.{asks, asked_from, asked_of, asked_by, Asked, AreIndexed}
use Rattle.us_flows.proofs.ListedLemmas.{by_id-push}
use Rattle.us_flows.proofs.WordLemmas.{words_by, few_words}
use Rattle.us_flows.proofs.SidLemmas.{same_sid-equivalence, list_any-same, lookup-append, is_some-lookup, repeats-append, repeats-behind, not_again, insert-apart}

-- options

option_or-assoc : {X : Type 0} (a b c : Option X) → option_or (option_or a b) c ≡ option_or a (option_or b c)
option_or-assoc None b c = refl
option_or-assoc (Some x) b c = refl

option_map-or : {X Y : Type 0} (f : X → Y) (a b : Option X) →
    option_map f (option_or a b) ≡ option_or (option_map f a) (option_map f b)
option_map-or f None b = refl
option_map-or f (Some x) b = refl

-- positions

pub position-append : {X : Type 0} (passes : X → Bool) (i : ℕ) (xs ys : List X) →
    position_from passes i (xs ++ ys) ≡ option_or (position_from passes i xs) (position_from passes (i + length xs) ys)
position-append passes i [] ys = let none : i ≡ i + 0 = omega arith in ap (λ j. position_from passes j ys) none
position-append passes i (x ∷ xs) ys = elim (cases_Bool (passes x)) [
  | inl t ↦ rw t refl
  | inr f ↦
      let next : i + 1 + length xs ≡ i + length (x ∷ xs) = omega arith in
      rw f (position-append passes (i + 1) xs ys ∙ ap
      (λ j. option_or (position_from passes (i + 1) xs) (position_from passes j ys)) next)
]

pub position-none : {X : Type 0} (passes : X → Bool) (i : ℕ) (xs : List X) → list_any passes xs ≡ false →
    position_from passes i xs ≡ None
position-none passes i [] h = refl
position-none passes i (x ∷ xs) h =
    let parts = or_parts (passes x) (list_any passes xs) h in
    rw parts.0 (position-none passes (i + 1) xs parts.1)

position-some : {X : Type 0} (passes : X → Bool) (i : ℕ) (xs : List X) → list_any passes xs ≡
    is_some (position_from passes i xs)
position-some passes i [] = refl
position-some passes i (x ∷ xs) = elim (cases_Bool (passes x)) [
  | inl t ↦ rw t refl
  | inr f ↦ rw f (position-some passes (i + 1) xs)
]

-- keys of the index are the SIDs of the flows

keys_of-each : {K X : Type 0} (v : X) (ks : List K) → keys_of (map (λ k. (k, v)) ks) ≡ ks
keys_of-each v [] = refl
keys_of-each v (k ∷ ks) = ap (λ more. k ∷ more) (keys_of-each v ks)

keys-asked_from : (what : ℕ → Found) (number : ℕ) (channels : List ℕ) (clusters : List (List ℕ)) →
    keys_of (asked_from what number channels clusters) ≡ flat_map (λ sids. zip channels sids) clusters
keys-asked_from what number channels [] = refl
keys-asked_from what number channels (sids ∷ rest) =
    let each = keys_of-each (what number) (zip channels sids) in
    let more = keys-asked_from what (number + 1) channels rest in
    map-append (λ entry. entry.0) (map (λ sid. (sid, what number)) (zip channels sids))
    (asked_from what (number + 1) channels rest) ∙ ap₂ (λ a b. a ++ b) each more

keys-asked_by : (number : ℕ) (flows : List FlowTable) → keys_of (asked_by number flows) ≡ flat_map sids_of flows
keys-asked_by number [] = refl
keys-asked_by number (flow ∷ flows) =
    let own = keys-asked_from (asks flow.kind number) number flow.channels flow.clusters in
    let more = keys-asked_by (number + length (words_in flow)) flows in
    map-append (λ entry. entry.0) (asked_of number flow) (asked_by (number + length (words_in flow)) flows) ∙ ap₂
    (λ a b. a ++ b) own more

-- a cluster has a SID where the index has it

lookup-each : {K X : Type 0} (test : K → Bool) (v : X) (ks : List K) →
    lookup test (map (λ k. (k, v)) ks) ≡ (if list_any test ks then Some v else None)
lookup-each test v [] = refl
lookup-each test v (k ∷ ks) = elim (cases_Bool (test k)) [
  | inl t ↦ rw t refl
  | inr f ↦ rw f (lookup-each test v ks)
]

has_sid-is : (channel sid : ℕ) (pairs : List (ℕ × ℕ)) →
    list_any (same_sid (channel, sid)) pairs ≡ list_any (λ pair. same_sid pair (channel, sid)) pairs
has_sid-is channel sid pairs =
    list_any-same (same_sid (channel, sid)) (λ pair. same_sid pair (channel, sid))
    (λ pair. same_sid-equivalence.symm (channel, sid) pair) pairs

some_first : {X Y : Type 0} (b : Bool) (f : X → Y) (x : X) (rest : Option X) →
    option_or (if b then Some (f x) else None) (option_map f rest) ≡ option_map f (if b then Some x else rest)
some_first true f x rest = refl
some_first false f x rest = refl

pub lookup-clusters : (channel sid : ℕ) (what : ℕ → Found) (flow : FlowTable) (number list : ℕ)
    (clusters : List (List ℕ)) →
    lookup (same_sid (channel, sid)) (asked_from what number flow.channels clusters) ≡
    option_map what (position_from (has_sid channel sid) number (clusters_from flow list clusters))
lookup-clusters channel sid what flow number list [] = refl
lookup-clusters channel sid what flow number list (sids ∷ rest) =
    let pairs : List (ℕ × ℕ) = zip flow.channels sids in
    let both = lookup-append (same_sid (channel, sid)) (map (λ pair. (pair, what number)) pairs)
    (asked_from what (number + 1) flow.channels rest) in
    let own = lookup-each (same_sid (channel, sid)) (what number) pairs ∙ ap
    (λ b. if b then Some (what number) else None) (has_sid-is channel sid pairs) in
    let more = lookup-clusters channel sid what flow (number + 1) (list + 1) rest in
    both ∙ ap₂ (λ a b. option_or a b) own more ∙ some_first
    (list_any (λ pair. same_sid pair (channel, sid)) pairs) what number
    (position_from (has_sid channel sid) (number + 1) (clusters_from flow (list + 1) rest))

sids-clusters : (channel sid : ℕ) (flow : FlowTable) (list : ℕ) (clusters : List (List ℕ)) →
    list_any (same_sid (channel, sid)) (flat_map (λ sids. zip flow.channels sids) clusters) ≡
    list_any (has_sid channel sid) (clusters_from flow list clusters)
sids-clusters channel sid flow list [] = refl
sids-clusters channel sid flow list (sids ∷ rest) =
    let pairs : List (ℕ × ℕ) = zip flow.channels sids in
    let both = list_any-append (same_sid (channel, sid)) pairs (flat_map (λ sids. zip flow.channels sids) rest) in
    both ∙ ap₂ (λ a b. a || b) (has_sid-is channel sid pairs) (sids-clusters channel sid flow (list + 1) rest)

-- the words by which a SID is told

position-requests : (channel sid number : ℕ) (cs : List Cluster) →
    position_from (is_requested_by channel sid) number (map Requests cs) ≡ position_from (has_sid channel sid) number cs
position-requests channel sid number [] = refl
position-requests channel sid number (c ∷ cs) =
    ap (λ rest. if has_sid channel sid c then Some number else rest) (position-requests channel sid (number + 1) cs)

requested-any : (channel sid : ℕ) (cs : List Cluster) →
    list_any (is_requested_by channel sid) (map Requests cs) ≡ list_any (has_sid channel sid) cs
requested-any channel sid [] = refl
requested-any channel sid (c ∷ cs) = ap (λ b. has_sid channel sid c || b) (requested-any channel sid cs)

pub no_activity : (channel sid : ℕ) (cs : List Cluster) → list_any (is_activity_of channel sid) (map Requests cs) ≡ false
no_activity channel sid [] = refl
no_activity channel sid (c ∷ cs) = no_activity channel sid cs

-- a flow without the SID has no such word
record NoWord (channel sid : ℕ) (words : List Word) : Type 0 where
  pub requests : list_any (is_requested_by channel sid) words ≡ false
  pub activity : list_any (is_activity_of channel sid) words ≡ false

own_words : (channel sid : ℕ) (flow : FlowTable) → flow_has_sid channel sid flow ≡ false →
    NoWord channel sid (words_in flow)
own_words channel sid flow h = by flow.kind
  where
    requested : NoWord channel sid (map Requests (clusters_from flow 0 flow.clusters))
    requested = record {
      requests = requested-any channel sid (clusters_from flow 0 flow.clusters) ∙ h;
      activity = no_activity channel sid (clusters_from flow 0 flow.clusters);
    }

    by : (kind : SchedulingType) → NoWord channel sid (words_by flow kind (clusters_from flow 0 flow.clusters))
    by BestEffort = requested
    by NonRealTimePolling = requested
    by RealTimePolling = requested
    by ActivityDetection = record { requests = refl; activity = rw h refl }
    by UnsolicitedGrant = record { requests = refl; activity = refl }

none_told : (channel sid : ℕ) (flows : List FlowTable) →
    list_any (same_sid (channel, sid)) (flat_map sids_of flows) ≡ false →
    NoWord channel sid (flat_map words_in flows)
none_told channel sid [] h = record { requests = refl; activity = refl }
none_told channel sid (flow ∷ flows) h =
    let both = list_any-append (same_sid (channel, sid)) (sids_of flow) (flat_map sids_of flows) in
    let parts = or_parts (list_any (same_sid (channel, sid)) (sids_of flow))
    (list_any (same_sid (channel, sid)) (flat_map sids_of flows)) (sym both ∙ h) in
    let own = own_words channel sid flow (sym (sids-clusters channel sid flow 0 flow.clusters) ∙ parts.0) in
    let rest = none_told channel sid flows parts.1 in
    record {
      requests = list_any-append (is_requested_by channel sid) (words_in flow) (flat_map words_in flows) ∙ ap₂
          (λ a b. a || b) own.requests rest.requests;
      activity = list_any-append (is_activity_of channel sid) (words_in flow) (flat_map words_in flows) ∙ ap₂
          (λ a b. a || b) own.activity rest.activity;
    }

-- nor is it one with grants at all times
none_free : (channel sid : ℕ) (flows : List FlowTable) →
    list_any (same_sid (channel, sid)) (flat_map sids_of flows) ≡ false →
    list_any (is_unsolicited channel sid) flows ≡ false
none_free channel sid [] h = refl
none_free channel sid (flow ∷ flows) h =
    let both = list_any-append (same_sid (channel, sid)) (sids_of flow) (flat_map sids_of flows) in
    let parts = or_parts (list_any (same_sid (channel, sid)) (sids_of flow))
    (list_any (same_sid (channel, sid)) (flat_map sids_of flows)) (sym both ∙ h) in
    let own = sym (sids-clusters channel sid flow 0 flow.clusters) ∙ parts.0 in
    let free : Bool = not (makes_requests flow.kind) && not (tells_activity flow.kind) in
    let here : is_unsolicited channel sid flow ≡ false = ap (λ b. free && b) own ∙ and-false free in
    ap₂ (λ a b. a || b) here (none_free channel sid flows parts.1)
  where
    and-false : (b : Bool) → (b && false) ≡ false
    and-false true = refl
    and-false false = refl

-- what is looked up

abbrev unsolicited : Bool → Option Found
unsolicited b = if b then Some found.Unsolicited else None

-- among words and flows, where the first word has this number
abbrev found_in : ℕ → ℕ → ℕ → List Word → Bool → Option Found
found_in channel sid number words free =
    option_or (option_map found.Cluster (position_from (is_requested_by channel sid) number words))
    (option_or (option_map found.Activity (position_from (is_activity_of channel sid) number words)) (unsolicited free))

abbrev found_from : ℕ → ℕ → ℕ → List FlowTable → Option Found
found_from channel sid number flows =
    found_in channel sid number (flat_map words_in flows) (list_any (is_unsolicited channel sid) flows)

-- one flow before others, by its type
module _ (channel sid number : ℕ) (words : List Word) (free : Bool) where
  -- where the SID is none of the others'
  record AreOthers : Type 0 where
    pub told : NoWord channel sid words
    pub granted : free ≡ false

  requesting_flow : (clusters : List Cluster) →
      option_or (option_map found.Cluster (position_from (has_sid channel sid) number clusters))
      (found_in channel sid (number + length (map Requests clusters)) words free) ≡
      found_in channel sid number (map Requests clusters ++ words) free
  requesting_flow clusters =
      let behind : ℕ = number + length (map Requests clusters) in
      let here : Option ℕ = position_from (has_sid channel sid) number clusters in
      let there : Option ℕ = position_from (is_requested_by channel sid) behind words in
      let told : Option ℕ = position_from (is_activity_of channel sid) behind words in
      let other : Option Found = option_or (option_map found.Activity told) (unsolicited free) in
      let requests : position_from (is_requested_by channel sid) number (map Requests clusters ++ words) ≡
      option_or here there = position-append (is_requested_by channel sid) number (map Requests clusters) words ∙ ap
      (λ o. option_or o there) (position-requests channel sid number clusters) in
      let activity : position_from (is_activity_of channel sid) number (map Requests clusters ++ words) ≡ told =
      position-append (is_activity_of channel sid) number (map Requests clusters) words ∙ ap (λ o. option_or o told)
      (position-none (is_activity_of channel sid) number (map Requests clusters) (no_activity channel sid clusters)) in
      sym (ap₂ (λ a b. option_or (option_map found.Cluster a) (option_or (option_map found.Activity b) (unsolicited free)))
      requests activity ∙ ap (λ o. option_or o other) (option_map-or found.Cluster here there) ∙
      option_or-assoc (option_map found.Cluster here) (option_map found.Cluster there) other)

  activity_flow : (flow : FlowTable) (here : Option ℕ) → flow_has_sid channel sid flow ≡ is_some here →
      (flow_has_sid channel sid flow ≡ true → AreOthers) →
      option_or (option_map (λ n. found.Activity number) here) (found_in channel sid (number + 2) words free) ≡
      found_in channel sid number (Silent flow ∷ Active flow ∷ words) free
  activity_flow flow None is others =
      let next : number + 2 ≡ number + 1 + 1 = omega arith in
      rw is (ap (λ n. found_in channel sid n words free) next)
  activity_flow flow (Some n) is others =
      rw (is, position-none (is_requested_by channel sid) (number + 1 + 1) words (others is).told.requests) refl

  free_flow : (has : Bool) (here : Option ℕ) → has ≡ is_some here → (has ≡ true → AreOthers) →
      option_or (option_map (λ n. found.Unsolicited) here) (found_in channel sid (number + 0) words free) ≡
      found_in channel sid number words (has || free)
  free_flow true None is others = let no : true ≡ false = is in cc
  free_flow false None is others =
      let same : number + 0 ≡ number = omega arith in ap (λ n. found_in channel sid n words free) same
  free_flow false (Some n) is others = let no : false ≡ true = is in cc
  free_flow true (Some n) is others =
      rw (
        position-none (is_requested_by channel sid) number words (others refl).told.requests,
        position-none (is_activity_of channel sid) number words (others refl).told.activity,
      ) refl

one_flow : (channel sid number : ℕ) (flow : FlowTable) (flows : List FlowTable) →
    (flow_has_sid channel sid flow ≡ true →
    AreOthers channel sid number (flat_map words_in flows) (list_any (is_unsolicited channel sid) flows)) →
    option_or
    (option_map (asks flow.kind number)
    (position_from (has_sid channel sid) number (clusters_from flow 0 flow.clusters)))
    (found_from channel sid (number + length (words_in flow)) flows) ≡
    found_from channel sid number (flow ∷ flows)
one_flow channel sid number flow flows others = by flow.kind
  where
    clusters : List Cluster
    clusters = clusters_from flow 0 flow.clusters

    here : Option ℕ
    here = position_from (has_sid channel sid) number clusters

    words : List Word
    words = flat_map words_in flows

    free : Bool
    free = list_any (is_unsolicited channel sid) flows

    by : (kind : SchedulingType) →
        option_or (option_map (asks kind number) here)
        (found_in channel sid (number + length (words_by flow kind clusters)) words free) ≡
        found_in channel sid number (words_by flow kind clusters ++ words)
        (((not (makes_requests kind) && not (tells_activity kind)) && flow_has_sid channel sid flow) || free)
    by BestEffort = requesting_flow channel sid number words free clusters
    by NonRealTimePolling = requesting_flow channel sid number words free clusters
    by RealTimePolling = requesting_flow channel sid number words free clusters
    by ActivityDetection =
        activity_flow channel sid number words free flow here (position-some (has_sid channel sid) number clusters) others
    by UnsolicitedGrant =
        free_flow channel sid number words free (flow_has_sid channel sid flow) here
        (position-some (has_sid channel sid) number clusters) others

lookup-from : (channel sid number : ℕ) (flows : List FlowTable) → repeats same_sid (flat_map sids_of flows) ≡ false →
    lookup (same_sid (channel, sid)) (asked_by number flows) ≡ found_from channel sid number flows
lookup-from channel sid number [] apart = refl
lookup-from channel sid number (flow ∷ flows) apart =
    let key : ℕ × ℕ = (channel, sid) in
    let next : ℕ = number + length (words_in flow) in
    let both = lookup-append (same_sid key) (asked_of number flow) (asked_by next flows) in
    let own = lookup-clusters channel sid (asks flow.kind number) flow number 0 flow.clusters in
    let behind = repeats-behind same_sid same_sid-equivalence (sids_of flow) (flat_map sids_of flows) apart in
    both ∙ ap₂ (λ a b. option_or a b) own (lookup-from channel sid next flows behind) ∙
    one_flow channel sid number flow flows (λ has.
    let none = not_again same_sid same_sid-equivalence (sids_of flow) (flat_map sids_of flows) key apart
    (sids-clusters channel sid flow 0 flow.clusters ∙ has) in
    record { told = none_told channel sid flows none; granted = none_free channel sid flows none })

pub lookup-asked : (channel sid : ℕ) (flows : List FlowTable) → repeats same_sid (flat_map sids_of flows) ≡ false →
    lookup (same_sid (channel, sid)) (asked_by 0 flows) ≡ found_among flows channel sid
lookup-asked channel sid flows apart =
    lookup-from channel sid 0 flows apart ∙ sym (ap₂
    (λ a b. option_or (option_map found.Cluster a)
    (option_or (option_map found.Activity b) (unsolicited (list_any (is_unsolicited channel sid) flows))))
    (position_from-zero (is_requested_by channel sid) (flat_map words_in flows))
    (position_from-zero (is_activity_of channel sid) (flat_map words_in flows)))

pub taken-asked : (channel sid : ℕ) (flows : List FlowTable) →
    is_some (lookup (same_sid (channel, sid)) (asked_by 0 flows)) ≡ is_taken flows (channel, sid)
taken-asked channel sid flows =
    is_some-lookup (same_sid (channel, sid)) (asked_by 0 flows) ∙ ap (list_any (same_sid (channel, sid)))
    (keys-asked_by 0 flows)

-- one flow more

asked_by-push : (number : ℕ) (flows : List FlowTable) (flow : FlowTable) →
    asked_by number (flows ++ flow ∷ []) ≡
    asked_by number flows ++ asked_of (number + length (flat_map words_in flows)) flow
asked_by-push number [] flow =
    let same : number ≡ number + 0 = omega arith in
    append-nil (asked_of number flow) ∙ ap (λ n. asked_of n flow) same
asked_by-push number (first ∷ flows) flow =
    let own : List Asked = asked_of number first in
    let rest : List Asked = asked_by (number + length (words_in first)) flows in
    let lengths = length-append (words_in first) (flat_map words_in flows) in
    let count : number + length (words_in first) + length (flat_map words_in flows) ≡
    number + length (flat_map words_in (first ∷ flows)) = omega (arith, lengths) in
    let more = asked_by-push (number + length (words_in first)) flows flow ∙ ap (λ n. rest ++ asked_of n flow) count in
    ap (λ entries. own ++ entries) more ∙ sym (append_assoc own rest
    (asked_of (number + length (flat_map words_in (first ∷ flows))) flow))

module _ (entries : List (ℕ × FlowTable)) (index : List Asked) (count : ℕ) (are : AreIndexed entries index count)
    (flow : FlowTable) where
  pub index-push : list_any (is_taken (values_of entries)) (sids_of flow) ≡ false →
      repeats same_sid (sids_of flow) ≡ false → length flow.clusters ≤ 2 →
      AreIndexed (entries ++ (flow.id, flow) ∷ []) (insert_all same_sid index (asked_of count flow))
      (count + length (words_in flow))
  index-push new apart two =
      let flows : List FlowTable = values_of entries in
      let own : List Asked = asked_of count flow in
      let values : values_of (entries ++ (flow.id, flow) ∷ []) ≡ flows ++ flow ∷ [] =
      map-append (λ entry. entry.1) entries ((flow.id, flow) ∷ []) in
      let keys : keys_of index ≡ flat_map sids_of flows = ap keys_of are.sids ∙ keys-asked_by 0 flows in
      let own_keys : keys_of own ≡ sids_of flow =
      keys-asked_from (asks flow.kind count) count flow.channels flow.clusters in
      let all_apart = repeats-append same_sid same_sid-equivalence (flat_map sids_of flows) (sids_of flow) are.apart
      new apart in
      let more : flat_map sids_of (flows ++ flow ∷ []) ≡ flat_map sids_of flows ++ sids_of flow =
      flat_map-append sids_of flows (flow ∷ []) ∙ ap (λ sids. flat_map sids_of flows ++ sids)
      (append-nil (sids_of flow)) in
      let words : flat_map words_in (flows ++ flow ∷ []) ≡ flat_map words_in flows ++ words_in flow =
      flat_map-append words_in flows (flow ∷ []) ∙ ap (λ rest. flat_map words_in flows ++ rest)
      (append-nil (words_in flow)) in
      let inserted = insert-apart same_sid same_sid-equivalence index own
      (ap (repeats same_sid) (ap₂ (λ a b. a ++ b) keys own_keys) ∙ all_apart) in
      let counted = length-append (flat_map words_in flows) (words_in flow) in
      let lengths = length-append flows (flow ∷ []) in
      let before : count ≡ 0 + length (flat_map words_in flows) = omega (arith, are.words) in
      record {
        flows = by_id-push (λ f. f.id) entries are.flows flow;
        sids =
            inserted ∙ ap₂ (λ a n. a ++ asked_of n flow) are.sids before ∙ sym (asked_by-push 0 flows flow) ∙ ap
            (asked_by 0) (sym values);
        apart = ap (λ fs. repeats same_sid (flat_map sids_of fs)) values ∙ ap (repeats same_sid) more ∙ all_apart;
        words =
            ap (λ n. n + length (words_in flow)) are.words ∙ sym counted ∙ ap length (sym words) ∙ ap
            (λ fs. length (flat_map words_in fs)) (sym values);
        few = omega (arith, are.few, few_words flow two, lengths, ap length values);
      }
