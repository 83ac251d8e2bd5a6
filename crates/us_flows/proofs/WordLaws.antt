-- What holds of words, for the crates above: where those of a flow stand, and which of them a SID leads to.
use Rattle.std.proofs.Common.{◌≡◌, ℕ, zero, suc, ◌+◌, List, [], ◌∷◌, ◌++◌, length, map, take, flat_map, Bool, true, false, if◌then◌else◌, Option, Some, None, slice_get, option_map, refl, sym, ap, ap₂, ◌∙◌, inl, inr, append_assoc, arith}
use Rattle.std.specs.Prelude.{position}
use Rattle.std.specs.List.{list_any, position_from}
use Rattle.std.specs.Option.{option_or}
use Rattle.std.proofs.lemmas.Bool.{cases_Bool}
use Rattle.std.proofs.lemmas.List.{length-append}
use Rattle.std.proofs.lemmas.Iterator.Adapters.{position_from-zero}
use Rattle.us_flows.specs.Tables.{Tables, FlowTable}
use Rattle.us_flows.specs.Clusters.{Cluster, Word, Requests, Silent, Active, clusters_from, flow_has_sid, is_activity_of, is_requested_by, is_unsolicited, lookup, words_in, words_of}
use Rattle.us_flows.specs.Laws.{ActivityHasWords, LeadsTo, FoundHasWords}
use Rattle.us_flows.specs.declared.found.Found.TheVariants as found
use Rattle.us_flows.specs.declared.flows.SchedulingType.{SchedulingType}
use Rattle.us_flows.specs.declared.flows.SchedulingType.TheVariants.{BestEffort, NonRealTimePolling, RealTimePolling, ActivityDetection, UnsolicitedGrant}
use Rattle.us_flows.proofs.IndexLemmas.{no_activity, position-append, position-none}
use Rattle.us_flows.proofs.TurnLemmas.{get-behind}
use Rattle.us_flows.proofs.WordLemmas.{words-activity, words_by}

-- those of the flow at a place stand behind those before it
at_flow : (flows : List FlowTable) (place : ℕ) (flow : FlowTable) → slice_get flows place ≡ Some flow →
    (later : List Word) × (flat_map words_in flows ≡ flat_map words_in (take place flows) ++ (words_in flow ++ later))
at_flow [] place flow at = let no : None ≡ Some flow = at in cc
at_flow (f ∷ flows) zero flow at =
    let found : Some f ≡ Some flow = at in
    let same : f ≡ flow = cc in
    (flat_map words_in flows, ap (λ g. words_in g ++ flat_map words_in flows) same)
at_flow (f ∷ flows) (suc place) flow at =
    let rest = at_flow flows place flow at in
    let more : List Word = words_in flow ++ rest.0 in (
      rest.0,
      ap (λ words. words_in f ++ words) rest.1 ∙
          sym (append_assoc (words_in f) (flat_map words_in (take place flows)) more),
    )

pub activity_has_words : ActivityHasWords
activity_has_words t place flow at tells =
    let here = at_flow t.flows place flow at in
    let before : List Word = flat_map words_in (take place t.flows) in
    let all : words_of t ≡ before ++ Silent flow ∷ Active flow ∷ here.0 =
    here.1 ∙ ap (λ words. before ++ (words ++ here.0)) (words-activity flow tells) in
    let next : length (before ++ Silent flow ∷ []) ≡ length before + 1 = length-append before (Silent flow ∷ []) in (
      ap (λ words. slice_get words (length before)) all ∙ get-behind before (Silent flow) (Active flow ∷ here.0),
      ap₂ slice_get (all ∙ sym (append_assoc before (Silent flow ∷ []) (Active flow ∷ here.0))) (sym next) ∙
          get-behind (before ++ Silent flow ∷ []) (Active flow) here.0,
    )

-- what a test finds at a place passes it

position-at : {X : Type 0} (passes : X → Bool) (from n : ℕ) (xs : List X) → position_from passes from xs ≡ Some n →
    (k : ℕ) × (n ≡ from + k) × ((x : X) × (slice_get xs k ≡ Some x) × (passes x ≡ true))
position-at passes from n [] is = let no : None ≡ Some n = is in cc
position-at passes from n (x ∷ xs) is = elim (cases_Bool (passes x)) [
  | inl t ↦
      let found : Some from ≡ Some n = rw t at is in
      let same : from ≡ n = cc in
      (0, omega (arith, same), (x, refl, t))
  | inr f ↦
      let rest = position-at passes (from + 1) n xs (rw f at is) in
      (suc rest.0, omega (arith, rest.1), rest.2)
]

-- the word of a cluster with the SID

requested : (channel sid : ℕ) (t : Tables) (n : ℕ) (word : Word) → slice_get (words_of t) n ≡ Some word →
    is_requested_by channel sid word ≡ true → LeadsTo t channel sid (found.Cluster n)
requested channel sid t n (Requests cluster) at has = (cluster, at, has)
requested channel sid t n (Silent flow) at has = let no : false ≡ true = has in cc
requested channel sid t n (Active flow) at has = let no : false ≡ true = has in cc

-- the words of a flow's activity with the SID

record AreOfActivity (channel sid : ℕ) (words : List Word) (k : ℕ) : Type 0 where
  pub flow : FlowTable
  pub silent : slice_get words k ≡ Some (Silent flow)
  pub active : slice_get words (k + 1) ≡ Some (Active flow)
  pub has : flow_has_sid channel sid flow ≡ true

get-past : {X : Type 0} (before xs : List X) (k : ℕ) → slice_get (before ++ xs) (length before + k) ≡ slice_get xs k
get-past [] xs k = let same : 0 + k ≡ k = omega arith in ap (slice_get xs) same
get-past (b ∷ before) xs k =
    let next : length (b ∷ before) + k ≡ suc (length before + k) = omega arith in
    ap (slice_get (b ∷ before ++ xs)) next ∙ get-past before xs k

moved : (channel sid : ℕ) (before words : List Word) (k : ℕ) → AreOfActivity channel sid words k →
    AreOfActivity channel sid (before ++ words) (length before + k)
moved channel sid before words k are =
    let next : length before + k + 1 ≡ length before + (k + 1) = omega arith in
    record {
      flow = are.flow;
      silent = get-past before words k ∙ are.silent;
      active = ap (slice_get (before ++ words)) next ∙ get-past before words (k + 1) ∙ are.active;
      has = are.has;
    }

-- the place of the first of them among words that stand from a number on
abbrev Found_at : ℕ → ℕ → ℕ → ℕ → List Word → Type 0
Found_at channel sid from n words = (k : ℕ) × (n ≡ from + k) × AreOfActivity channel sid words k

later : (channel sid from n : ℕ) (before words : List Word) → Found_at channel sid (from + length before) n words →
    Found_at channel sid from n (before ++ words)
later channel sid from n before words at =
    (length before + at.0, omega (arith, at.1), moved channel sid before words at.0 at.2)

-- with a flow before others, of which this is known
module _ (channel sid from n : ℕ) (flow : FlowTable) (rest : List Word)
    (others : (at : ℕ) → position_from (is_activity_of channel sid) at rest ≡ Some n → Found_at channel sid at n rest) where
  behind_requests : (clusters : List Cluster) →
      position_from (is_activity_of channel sid) from (map Requests clusters ++ rest) ≡ Some n →
      Found_at channel sid from n (map Requests clusters ++ rest)
  behind_requests clusters is =
      let at : ℕ = from + length (map Requests clusters) in
      let none = position-none (is_activity_of channel sid) from (map Requests clusters)
      (no_activity channel sid clusters) in
      let split = position-append (is_activity_of channel sid) from (map Requests clusters) rest in
      let behind : position_from (is_activity_of channel sid) at rest ≡ Some n =
      sym (split ∙ ap (λ o. option_or o (position_from (is_activity_of channel sid) at rest)) none) ∙ is in
      later channel sid from n (map Requests clusters) rest (others at behind)

  of_activity : position_from (is_activity_of channel sid) from (Silent flow ∷ Active flow ∷ rest) ≡ Some n →
      Found_at channel sid from n (Silent flow ∷ Active flow ∷ rest)
  of_activity is = elim (cases_Bool (flow_has_sid channel sid flow)) [
    | inl t ↦
        let found : Some from ≡ Some n = rw t at is in
        let same : from ≡ n = cc in
        (0, omega (arith, same), record { flow = flow; silent = refl; active = refl; has = t })
    | inr f ↦
        let next : from + 1 + 1 ≡ from + length (Silent flow ∷ Active flow ∷ []) = omega arith in
        let behind : position_from (is_activity_of channel sid) (from + 1 + 1) rest ≡ Some n = rw f at is in
        later channel sid from n (Silent flow ∷ Active flow ∷ []) rest
        (others (from + length (Silent flow ∷ Active flow ∷ [])) (rw next at behind))
  ]

  by_type : (kind : SchedulingType) (clusters : List Cluster) →
      position_from (is_activity_of channel sid) from (words_by flow kind clusters ++ rest) ≡ Some n →
      Found_at channel sid from n (words_by flow kind clusters ++ rest)
  by_type BestEffort clusters is = behind_requests clusters is
  by_type NonRealTimePolling clusters is = behind_requests clusters is
  by_type RealTimePolling clusters is = behind_requests clusters is
  by_type ActivityDetection clusters is = of_activity is
  by_type UnsolicitedGrant clusters is = others from is

activity-at : (channel sid from n : ℕ) (flows : List FlowTable) →
    position_from (is_activity_of channel sid) from (flat_map words_in flows) ≡ Some n →
    Found_at channel sid from n (flat_map words_in flows)
activity-at channel sid from n [] is = let no : None ≡ Some n = is in cc
activity-at channel sid from n (flow ∷ flows) is =
    by_type channel sid from n flow (flat_map words_in flows) (λ at found. activity-at channel sid at n flows found)
    flow.kind (clusters_from flow 0 flow.clusters) is

-- what is looked up

pub found_has_words : FoundHasWords
unfolding lookup
found_has_words t channel sid what is =
    by (position (is_requested_by channel sid) (words_of t)) (position (is_activity_of channel sid) (words_of t))
    (list_any (is_unsolicited channel sid) t.flows) refl refl is
  where
    by : (request activity : Option ℕ) (free : Bool) →
        position (is_requested_by channel sid) (words_of t) ≡ request →
        position (is_activity_of channel sid) (words_of t) ≡ activity →
        option_or (option_map found.Cluster request)
        (option_or (option_map found.Activity activity) (if free then Some found.Unsolicited else None)) ≡ Some what →
        LeadsTo t channel sid what
    by (Some n) activity free first second is =
        let here = position-at (is_requested_by channel sid) 0 n (words_of t)
        (sym (position_from-zero (is_requested_by channel sid) (words_of t)) ∙ first) in
        let whole : Some (found.Cluster n) ≡ Some what = is in
        let same : found.Cluster n ≡ what = cc in
        let place : here.0 ≡ n = omega (arith, here.1) in
        rw (← same) (requested channel sid t n here.2.0 (ap (slice_get (words_of t)) (sym place) ∙ here.2.1) here.2.2)
    by None (Some n) free first second is =
        let here = activity-at channel sid 0 n t.flows
        (sym (position_from-zero (is_activity_of channel sid) (words_of t)) ∙ second) in
        let whole : Some (found.Activity n) ≡ Some what = is in
        let same : found.Activity n ≡ what = cc in
        let place : here.0 ≡ n = omega (arith, here.1) in
        let are : AreOfActivity channel sid (words_of t) n = rw place at here.2 in
        rw (← same) (are.flow, are.silent, are.active, are.has)
    by None None true first second is =
        let whole : Some found.Unsolicited ≡ Some what = is in
        let same : found.Unsolicited ≡ what = cc in
        rw (← same) tt
    by None None false first second is = let no : None ≡ Some what = is in cc
