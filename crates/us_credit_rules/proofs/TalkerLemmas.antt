-- Flows that tell their activity, as they are listed, and the A lines that a run should end with.
use Rattle.std.proofs.Common.{◌≡◌, ℕ, ◌+◌, ◌<◌, ◌==◌, Bool, true, false, List, [], ◌∷◌, ◌++◌, length, map, get_or, drop, Some, refl, sym, ap, ap₂, subst, ◌∙◌, inl, inr, append_assoc, arith}
use Rattle.std.specs.Prelude.{◌||◌, if◌then◌else◌, filter, flat_map, fold, slice_get}
use Rattle.std.specs.List.{AllByRecursion, list_any}
use Rattle.std.proofs.lemmas.Bool.{cases_Bool}
use Rattle.std.proofs.lemmas.List.{drop_more, length-append, take_all}
use Rattle.std.proofs.lemmas.List.FromFn.{length-map-range_with_len}
use Rattle.us_flows.specs.Tables.{Tables, FlowTable}
use Rattle.us_flows.specs.Clusters.{Silent, Word, tells_activity, words_in, words_of}
use Rattle.us_flows.proofs.WordLemmas.{words-activity}
use Rattle.us_requests.specs.Cuts.{cut_of}
use Rattle.us_requests.specs.Traces.{TraceAsks, asks_in, cuts_in}
use Rattle.us_calendar.specs.declared.silences.Silence.{Silence}
use Rattle.us_calendar.specs.Activity.{active_in, activity, hears}
use Rattle.us_calendar.specs.Entries.{WordedFlow, with_words}
use Rattle.us_activity.specs.Activities.{AreMarksOf}
use Rattle.us_activity.specs.Marks.{Marks}
use Rattle.us_output.proofs.PartLemmas.{all_weaker}
use Rattle.us_lawful.specs.Runs.{run_in}
use Rattle.us_lawful.specs.Finals.{activity_of, talking}
use Rattle.us_credit_rules.specs.declared.talkers.Talker.{Talker}
use Rattle.us_credit_rules.specs.Activities.{line_of, talker_of}
use Rattle.us_credit_rules.proofs.SeatLemmas.{slice_behind}

-- those among flows of which the first one's words begin with this number
abbrev talking_from : ℕ → List FlowTable → List WordedFlow
talking_from word flows = filter (λ f. tells_activity f.flow.kind) (with_words word flows)

abbrev pub talkers_from : ℕ → List FlowTable → List Talker
talkers_from word flows = map talker_of (talking_from word flows)

-- the one of a flow, if it is one
abbrev pub own_talker : ℕ → FlowTable → List Talker
own_talker word flow = if tells_activity flow.kind then record { id = flow.id; word = word } ∷ [] else []

first_talker : (word : ℕ) (flow : FlowTable) (flows : List FlowTable) →
    talkers_from word (flow ∷ flows) ≡ own_talker word flow ++ talkers_from (word + length (words_in flow)) flows
first_talker word flow flows = elim (cases_Bool (tells_activity flow.kind)) [
  | inl tells ↦ rw tells refl
  | inr none ↦ rw none refl
]

-- one flow more
pub talker_more : (talkers now all : List Talker) (word words : ℕ) (flows : List FlowTable) (i : ℕ) (flow : FlowTable) →
    i < length flows → flow ≡ get_or flows i flow → words ≡ length (words_in flow) →
    now ≡ talkers ++ own_talker word flow → talkers ++ talkers_from word (drop i flows) ≡ all →
    now ++ talkers_from (word + words) (drop (i + 1) flows) ≡ all
talker_more talkers now all word words flows i flow inside is many put so_far =
    let rest : List FlowTable = drop (i + 1) flows in
    let here : flow ∷ rest ≡ drop i flows = ap (λ f. f ∷ rest) is ∙ sym (drop_more flows i flow inside) in
    ap₂ (λ these n. these ++ talkers_from (word + n) rest) put many
    ∙ append_assoc talkers (own_talker word flow) (talkers_from (word + length (words_in flow)) rest)
    ∙ ap (λ more. talkers ++ more) (sym (first_talker word flow rest))
    ∙ ap (λ left. talkers ++ talkers_from word left) here ∙ so_far

pub no_talker : (word : ℕ) (flow : FlowTable) → tells_activity flow.kind ≡ false → own_talker word flow ≡ []
no_talker word flow none = ap (λ b. if b then record { id = flow.id; word = word } ∷ [] else []) none

pub one_talker : (word : ℕ) (flow : FlowTable) → tells_activity flow.kind ≡ true →
    own_talker word flow ≡ record { id = flow.id; word = word } ∷ []
one_talker word flow tells = ap (λ b. if b then record { id = flow.id; word = word } ∷ [] else []) tells

-- the silent word of one stands there
silent_at : (before : List Word) (flows : List FlowTable) →
    AllByRecursion (λ f. slice_get (before ++ flat_map words_in flows) f.word ≡ Some (Silent f.flow))
    (talking_from (length before) flows)
silent_at before [] = tt
silent_at before (flow ∷ flows) =
    let rest : List WordedFlow = talking_from (length before + length (words_in flow)) flows in
    there (tells_activity flow.kind) refl rest
    (subst (λ words. AllByRecursion (λ f. slice_get words f.word ≡ Some (Silent f.flow)) rest)
    (append_assoc before (words_in flow) (flat_map words_in flows))
    (subst (λ n. AllByRecursion (λ f. slice_get ((before ++ words_in flow) ++ flat_map words_in flows) f.word
    ≡ Some (Silent f.flow)) (talking_from n flows)) (length-append before (words_in flow))
    (silent_at (before ++ words_in flow) flows)))
  where
    Stands : WordedFlow → Type 0
    Stands f = slice_get (before ++ flat_map words_in (flow ∷ flows)) f.word ≡ Some (Silent f.flow)

    there : (tells : Bool) → tells_activity flow.kind ≡ tells → (fs : List WordedFlow) → AllByRecursion Stands fs →
        AllByRecursion Stands (if tells then record { word = length before; flow = flow } ∷ fs else fs)
    there true tells fs rest =
        let here : length before ≡ length before + 0 = omega arith in (
          ap (slice_get (before ++ flat_map words_in (flow ∷ flows))) here
              ∙ slice_behind before (flat_map words_in (flow ∷ flows)) 0
              ∙ ap (λ own. slice_get (own ++ flat_map words_in flows) 0) (words-activity flow tells),
          rest,
        )
    there false none fs rest = rest

-- behind all rounds it is active as the cuts say
heard : (silence : Silence) (was : Bool) (cuts : List (List ℕ)) →
    activity (Some silence) was cuts ≡ fold (hears silence.word) was cuts
heard silence was [] = refl
heard silence was (cut ∷ cuts) = heard silence (hears silence.word was cut) cuts

active_is : (t : Tables) (v : TraceAsks) (silence : Silence) →
    active_in (Some silence) (cuts_in t v) v.rounds ≡ fold (hears silence.word) true (cuts_in t v)
unfolding cuts_in
active_is t v silence =
    ap (activity (Some silence) true) (take_all (v.rounds + 1) (cuts_in t v)
    (omega (arith, length-map-range_with_len (λ round. cut_of (length (words_of t)) (asks_in v round)) 0 v.rounds)))
    ∙ heard silence true (cuts_in t v)

-- so the A line that a flow should end with is what its last mark says
pub lines_are : (t : Tables) (v : TraceAsks) (marks : Marks) → AreMarksOf t v marks →
    AllByRecursion (λ f. line_of marks v.rounds (talker_of f) ≡ activity_of (run_in t v) f) (talking t)
lines_are t v marks are =
    all_weaker (λ f. slice_get (words_of t) f.word ≡ Some (Silent f.flow))
    (λ f. line_of marks v.rounds (talker_of f) ≡ activity_of (run_in t v) f) line (talking t) (silent_at [] t.flows)
  where
    line : (f : WordedFlow) → slice_get (words_of t) f.word ≡ Some (Silent f.flow) →
        line_of marks v.rounds (talker_of f) ≡ activity_of (run_in t v) f
    line f at =
        let silence : Silence = record { word = f.word; slots = 0 } in
        ap (λ b. record { flow = f.flow.id; active = if b then 1 else 0 })
        (are.told f.flow silence v.rounds at ∙ active_is t v silence)

-- one of them has an id where one of the flows has
pub any_talker : (id : ℕ) (fs : List WordedFlow) →
    list_any (λ (talker : Talker). talker.id == id) (map talker_of fs) ≡ list_any (λ f. f.flow.id == id) fs
any_talker id [] = refl
any_talker id (f ∷ fs) = ap (λ b. (f.flow.id == id) || b) (any_talker id fs)
