-- The words that mark flows as silent.
use Rattle.std.proofs.Common.{◌≡◌, ◌≢◌, ℕ, zero, suc, ◌+◌, ◌<◌, ◌==◌, Bool, true, false, List, [], ◌∷◌, ◌++◌, length, map, take, get_or, flat_map, Some, None, append_assoc, refl, sym, ap, ◌∙◌, arith}
use Rattle.std.specs.Prelude.{◌&&◌, slice_get}
use Rattle.std.proofs.lemmas.Grind.{flat_map-append}
use Rattle.std.proofs.lemmas.List.{append-nil, map-append, take_more}
use Rattle.us_flows.specs.Tables.{Tables, FlowTable}
use Rattle.us_flows.specs.Clusters.{Cluster, Word, Requests, Silent, Active, clusters_from, tells_activity, words_in, words_of}
use Rattle.us_flows.specs.declared.flows.SchedulingType.{SchedulingType}
use Rattle.us_flows.specs.declared.flows.SchedulingType.TheVariants.{BestEffort, NonRealTimePolling, RealTimePolling, ActivityDetection, UnsolicitedGrant}
use Rattle.us_flows.proofs.WordLemmas.{words_by}
use Rattle.us_activity.specs.Kept.{is_silent, silent_at, silent_words}

-- Of a flow.

no_silent : (clusters : List Cluster) (place : ℕ) (d : Word) → place < length (map Requests clusters) →
    is_silent (get_or (map Requests clusters) place d) ≡ false
no_silent [] place d inside = absurd (omega (arith, inside))
no_silent (cluster ∷ clusters) zero d inside = refl
no_silent (cluster ∷ clusters) (suc place) d inside = no_silent clusters place d (omega (arith, inside))

-- the first word of one that tells its activity
first_silent : (flow : FlowTable) (place : ℕ) (d : Word) → place < length (words_in flow) →
    is_silent (get_or (words_in flow) place d) ≡ (tells_activity flow.kind && (place == 0))
first_silent flow place d inside = by flow.kind place inside
  where
    clusters : List Cluster
    clusters = clusters_from flow 0 flow.clusters

    by : (kind : SchedulingType) (place : ℕ) → place < length (words_by flow kind clusters) →
        is_silent (get_or (words_by flow kind clusters) place d) ≡ (tells_activity kind && (place == 0))
    by BestEffort place inside = no_silent clusters place d inside
    by NonRealTimePolling place inside = no_silent clusters place d inside
    by RealTimePolling place inside = no_silent clusters place d inside
    by ActivityDetection zero inside = refl
    by ActivityDetection (suc zero) inside = refl
    by ActivityDetection (suc (suc place)) inside = absurd (omega (arith, inside))
    by UnsolicitedGrant place inside = absurd (omega (arith, inside))

-- one word more
pub word_more : (flow : FlowTable) (before now : List Bool) (place : ℕ) (d : Word) → place < length (words_in flow) →
    now ≡ before ++ map is_silent (take place (words_in flow)) →
    now ++ (tells_activity flow.kind && (place == 0)) ∷ [] ≡ before ++ map is_silent (take (place + 1) (words_in flow))
word_more flow before now place d inside is =
    let words : List Word = words_in flow in
    let more : map is_silent (take (place + 1) words) ≡
    map is_silent (take place words) ++ (tells_activity flow.kind && (place == 0)) ∷ [] =
    ap (map is_silent) (take_more words place d inside)
    ∙ map-append is_silent (take place words) (get_or words place d ∷ [])
    ∙ ap (λ b. map is_silent (take place words) ++ b ∷ []) (first_silent flow place d inside) in
    ap (λ these. these ++ (tells_activity flow.kind && (place == 0)) ∷ []) is
    ∙ append_assoc before (map is_silent (take place words)) ((tells_activity flow.kind && (place == 0)) ∷ [])
    ∙ ap (λ these. before ++ these) (sym more)

-- and one flow more
pub flow_more : (flows : List FlowTable) (now : List Bool) (place : ℕ) (flow d : FlowTable) → place < length flows →
    flow ≡ get_or flows place d → now ≡ map is_silent (flat_map words_in (take place flows)) →
    now ++ map is_silent (words_in flow) ≡ map is_silent (flat_map words_in (take (place + 1) flows))
flow_more flows now place flow d inside at is =
    let before : List FlowTable = take place flows in
    let next : take (place + 1) flows ≡ before ++ flow ∷ [] =
    take_more flows place d inside ∙ ap (λ f. before ++ f ∷ []) (sym at) in
    ap (λ these. these ++ map is_silent (words_in flow)) is
    ∙ sym (map-append is_silent (flat_map words_in before) (words_in flow))
    ∙ ap (λ words. map is_silent (flat_map words_in before ++ words)) (sym (append-nil (words_in flow)))
    ∙ ap (map is_silent) (sym (flat_map-append words_in before (flow ∷ [])))
    ∙ ap (λ fs. map is_silent (flat_map words_in fs)) (sym next)

-- Behind the word that marks a flow as silent stands the one that marks it as active.

abbrev Next : FlowTable → List Word → ℕ → Type 0
Next flow words word = slice_get words word ≡ Some (Silent flow) → slice_get words (suc word) ≡ Some (Active flow)

behind_clusters : (flow : FlowTable) (clusters : List Cluster) (rest : List Word) (word : ℕ) →
    ((k : ℕ) → Next flow rest k) → Next flow (map Requests clusters ++ rest) word
behind_clusters flow [] rest word others at = others word at
behind_clusters flow (cluster ∷ clusters) rest zero others at =
    let never : Some (Requests cluster) ≡ Some (Silent flow) = at in
    cc
behind_clusters flow (cluster ∷ clusters) rest (suc word) others at = behind_clusters flow clusters rest word others at

behind_words : (flow one : FlowTable) (kind : SchedulingType) (clusters : List Cluster) (rest : List Word) (word : ℕ) →
    ((k : ℕ) → Next flow rest k) → Next flow (words_by one kind clusters ++ rest) word
behind_words flow one BestEffort clusters rest word others at = behind_clusters flow clusters rest word others at
behind_words flow one NonRealTimePolling clusters rest word others at = behind_clusters flow clusters rest word others at
behind_words flow one RealTimePolling clusters rest word others at = behind_clusters flow clusters rest word others at
behind_words flow one ActivityDetection clusters rest zero others at =
    let same : Some (Silent one) ≡ Some (Silent flow) = at in
    let own : one ≡ flow = cc in
    ap (λ f. Some (Active f)) own
behind_words flow one ActivityDetection clusters rest (suc zero) others at =
    let never : Some (Active one) ≡ Some (Silent flow) = at in
    cc
behind_words flow one ActivityDetection clusters rest (suc (suc word)) others at = others word at
behind_words flow one UnsolicitedGrant clusters rest word others at = others word at

behind_silent : (flow : FlowTable) (flows : List FlowTable) (word : ℕ) → Next flow (flat_map words_in flows) word
behind_silent flow [] word at = let never : None ≡ Some (Silent flow) = at in cc
behind_silent flow (one ∷ flows) word at =
    behind_words flow one one.kind (clusters_from one 0 one.clusters) (flat_map words_in flows) word
    (behind_silent flow flows) at

-- what is noted of a word
noted : (words : List Word) (k : ℕ) (word : Word) → slice_get words k ≡ Some word →
    silent_at (map is_silent words) k ≡ is_silent word
noted [] k word at = let never : None ≡ Some word = at in cc
noted (first ∷ words) zero word at =
    let whole : Some first ≡ Some word = at in
    let same : first ≡ word = cc in
    ap is_silent same
noted (first ∷ words) (suc k) word at = noted words k word at

there : (words : List Word) (k : ℕ) (word : Word) → slice_get words k ≡ Some word → k < length words
there [] k word at = let never : None ≡ Some word = at in cc
there (first ∷ words) zero word at = omega arith
there (first ∷ words) (suc k) word at = omega (arith, there words k word at)

-- and of one that marks no flow as silent
not_silent : (words : List Word) (k : ℕ) → ((flow : FlowTable) → slice_get words k ≢ Some (Silent flow)) →
    silent_at (map is_silent words) k ≡ false
not_silent [] k none = refl
not_silent (first ∷ words) zero none = by first none
  where
    by : (word : Word) → ((flow : FlowTable) → Some word ≢ Some (Silent flow)) → is_silent word ≡ false
    by (Requests cluster) other = refl
    by (Silent flow) other = absurd (other flow refl)
    by (Active flow) other = refl
not_silent (first ∷ words) (suc k) none = not_silent words k none

pub not_noted : (t : Tables) (word : ℕ) → ((flow : FlowTable) → slice_get (words_of t) word ≢ Some (Silent flow)) →
    silent_at (silent_words t) word ≡ false
not_noted t word none = not_silent (words_of t) word none

-- a flow's two words, among so many and as they are noted
pub record AreNoted (silent : List Bool) (words word : ℕ) : Type 0 where
  pub silent_is : silent_at silent word ≡ true
  pub active_is : silent_at silent (word + 1) ≡ false
  pub within : word + 1 < words

pub are_noted : (t : Tables) (flow : FlowTable) (word : ℕ) → slice_get (words_of t) word ≡ Some (Silent flow) →
    AreNoted (silent_words t) (length (words_of t)) word
are_noted t flow word at =
    let next : suc word ≡ word + 1 = omega arith in
    let behind : slice_get (words_of t) (word + 1) ≡ Some (Active flow) =
    ap (slice_get (words_of t)) (sym next) ∙ behind_silent flow t.flows word at in
    record {
      silent_is = noted (words_of t) word (Silent flow) at;
      active_is = noted (words_of t) (word + 1) (Active flow) behind;
      within = there (words_of t) (word + 1) (Active flow) behind;
    }
