-- The answers to a flow's table: the first fault of a list of checks is its first fault, if no list before it finds one.
use Rattle.std.proofs.Common.{◌≡◌, ℕ, ◌+◌, ◌≤◌, ◌<◌, List, [], ◌∷◌, ◌++◌, length, get_or, drop, append_assoc, codes, Option, Some, None, refl, sym, ◌∙◌, ap, arith, inl, inr}
use Rattle.std.specs.Prelude.{Err}
use Rattle.std.specs.Option.{option_or}
use Rattle.std.proofs.lemmas.Bool.{cases_Bool}
use Rattle.std.proofs.lemmas.List.{drop_more, length-append}
use Rattle.toml.specs.Data.{Data, string, integer, float, boolean, datetime, array, table, as_table, Members, Items, no_items, item}
use Rattle.toml.specs.declared.value.Value.{Value}
use Rattle.toml.specs.View.{view, items_view}
use Rattle.us_flows.specs.declared.channels.Channel.{Channel}
use Rattle.us_flows.specs.declared.faults.Place.{Place}
use Rattle.us_flows.specs.declared.faults.TableName.TheVariants as name
use Rattle.us_flows.specs.declared.faults.ConfigFault.{ConfigFault}
use Rattle.us_flows.specs.declared.faults.ConfigFault.TheVariants as fault
use Rattle.us_flows.specs.Tables.{FlowTable}
use Rattle.us_flows.specs.Documents.{items_at}
use Rattle.us_flows.specs.Shapes.{count}
use Rattle.us_flows.specs.Reading.{flow_of, all_of}
use Rattle.us_slots.specs.Lists.{first_of}
use Rattle.us_flows.specs.Checks.{Check, top, in_turn, flow_place, flow_shape, flow_names, flow_grants, flow_fault}
use Rattle.us_flows.specs.Answers.{Judged}
use Rattle.us_flows.proofs.CheckLemmas.{none_finds}
use Rattle.us_flows.proofs.ShapeLemmas.{length-lists_of}
use Rattle.us_flows.proofs.FlowLemmas.{flow_ranges}

-- no check finds that the text is no document
abbrev pub IsJudged : ConfigFault → Type 0
IsJudged fault.Text = ⊥
IsJudged other = Unit {0}

abbrev pub AreJudged : List Check → Type 0
AreJudged [] = Unit {0}
AreJudged (check ∷ checks) = IsJudged check.1 × AreJudged checks

pub first_judged : (checks : List Check) (f : ConfigFault) → AreJudged checks → first_of checks ≡ Some f → IsJudged f
first_judged [] f all h = let no : None ≡ Some f = h in cc
first_judged (check ∷ checks) f all h = elim (cases_Bool check.0) [
  | inl t ↦ let here : Some check.1 ≡ Some f = rw t at h in let same : check.1 ≡ f = cc in rw (← same) all.0
  | inr later ↦ first_judged checks f all.1 (rw later at h)
]

pub judged : {A : Type 0} (f : ConfigFault) (first : Option ConfigFault) (Is : A → Type 0) → IsJudged f → first ≡ Some f →
    Judged (Err f) first Is
judged fault.Text first Is is h = absurd is
judged (fault.Missing place) first Is is h = h
judged (fault.Range place) first Is is h = h
judged (fault.UnknownChannel place) first Is is h = h
judged (fault.DuplicateId place) first Is is h = h
judged (fault.DuplicateSid place) first Is is h = h
judged (fault.ClusterLength place) first Is is h = h
judged (fault.RoundNotMultiple place) first Is is h = h
judged (fault.ReservesTooLong place) first Is is h = h
judged (fault.Jitter place) first Is is h = h
judged (fault.GrantLongerThanMap place) first Is is h = h
judged (fault.Headers place) first Is is h = h
judged (fault.MinRate place) first Is is h = h
judged fault.NoMemory first Is is h = tt

-- the fault of a part is that of the whole
pub carried : {A B : Type 0} (f : ConfigFault) (part whole : Option ConfigFault) (Is : A → Type 0) (Are : B → Type 0) →
    (part ≡ Some f → whole ≡ Some f) → Judged (Err f) part Is → Judged (Err f) whole Are
carried fault.Text part whole Is Are on h = absurd h
carried (fault.Missing place) part whole Is Are on h = on h
carried (fault.Range place) part whole Is Are on h = on h
carried (fault.UnknownChannel place) part whole Is Are on h = on h
carried (fault.DuplicateId place) part whole Is Are on h = on h
carried (fault.DuplicateSid place) part whole Is Are on h = on h
carried (fault.ClusterLength place) part whole Is Are on h = on h
carried (fault.RoundNotMultiple place) part whole Is Are on h = on h
carried (fault.ReservesTooLong place) part whole Is Are on h = on h
carried (fault.Jitter place) part whole Is Are on h = on h
carried (fault.GrantLongerThanMap place) part whole Is Are on h = on h
carried (fault.Headers place) part whole Is Are on h = on h
carried (fault.MinRate place) part whole Is Are on h = on h
carried fault.NoMemory part whole Is Are on h = tt

-- A flow.

pub shape_judged : (round : ℕ) (channels : List Channel) (earlier : List FlowTable) (t : Members) (index : ℕ) (f : ConfigFault) →
    index ≡ length earlier →
    first_of (flow_shape (record { table = name.Flow; index = index }) t) ≡ Some f →
    Judged (Err f) (flow_fault round channels earlier t) (λ flow. flow ≡ flow_of t)
unfolding flow_fault
shape_judged round channels earlier t index f here h =
    let found : first_of (flow_shape (flow_place earlier) t) ≡ Some f = rw here at h in
    judged f (flow_fault round channels earlier t) (λ flow. flow ≡ flow_of t)
    (first_judged (flow_shape (flow_place earlier) t) f (tt, (tt, (tt, (tt, tt)))) found) (rw found refl)

pub names_judged : (round : ℕ) (channels : List Channel) (earlier : List FlowTable) (t : Members) (index : ℕ) (flow : FlowTable) (f : ConfigFault) →
    index ≡ length earlier → flow ≡ flow_of t →
    first_of (flow_shape (record { table = name.Flow; index = index }) t) ≡ None →
    first_of (flow_names (record { table = name.Flow; index = index }) channels earlier flow) ≡ Some f →
    Judged (Err f) (flow_fault round channels earlier t) (λ flow. flow ≡ flow_of t)
unfolding flow_fault
names_judged round channels earlier t index flow f here is shape h =
    let none : first_of (flow_shape (flow_place earlier) t) ≡ None = rw here at shape in
    let found : first_of (flow_names (flow_place earlier) channels earlier (flow_of t)) ≡ Some f = rw (here, is) at h in
    judged f (flow_fault round channels earlier t) (λ flow. flow ≡ flow_of t)
    (first_judged (flow_names (flow_place earlier) channels earlier (flow_of t)) f (tt, (tt, (tt, (tt, tt)))) found)
    (rw (none, found) refl)

pub grants_judged : (round : ℕ) (channels : List Channel) (earlier : List FlowTable) (t : Members) (index : ℕ) (flow : FlowTable) (f : ConfigFault) →
    index ≡ length earlier → flow ≡ flow_of t →
    first_of (flow_shape (record { table = name.Flow; index = index }) t) ≡ None →
    first_of (flow_names (record { table = name.Flow; index = index }) channels earlier flow) ≡ None →
    first_of (flow_grants (record { table = name.Flow; index = index }) round channels flow) ≡ Some f →
    Judged (Err f) (flow_fault round channels earlier t) (λ flow. flow ≡ flow_of t)
unfolding flow_fault
grants_judged round channels earlier t index flow f here is shape names h =
    let none : first_of (flow_shape (flow_place earlier) t) ≡ None = rw here at shape in
    let apart : first_of (flow_names (flow_place earlier) channels earlier (flow_of t)) ≡ None = rw (here, is) at names in
    let found : first_of (flow_grants (flow_place earlier) round channels (flow_of t)) ≡ Some f = rw (here, is) at h in
    judged f (flow_fault round channels earlier t) (λ flow. flow ≡ flow_of t)
    (first_judged (flow_grants (flow_place earlier) round channels (flow_of t)) f (tt, (tt, (tt, (tt, tt)))) found)
    (rw (none, apart, found) refl)

-- it has few clusters

pub few_clusters : (t : Members) (place : Place) (flow : FlowTable) → flow ≡ flow_of t →
    first_of (flow_shape place t) ≡ None → length flow.clusters ≤ 2
few_clusters t place flow is h =
    let shape = none_finds (flow_shape place t) h in
    let ranges = flow_ranges t shape.1.1.0 shape.1.1.1.0 in
    let lists : length flow.clusters ≡ length (flow_of t).clusters = ap (λ f. length f.clusters) is in
    omega (arith, lists, length-lists_of (items_at (codes "clusters") t), ranges.clusters.1)

-- A list of flows, of which the next one is read.

-- what the next item of a list of values is
next_data : (values : List Value) (i : ℕ) (value d : Value) → i < length values → value ≡ get_or values i d →
    items_view (drop i values) ≡ item (view value) (items_view (drop (i + 1) values))
next_data values i value d within is = rw (drop_more values i d within, is) refl

is_table : (d : Data) (t : Members) → Some t ≡ as_table d → d ≡ table t
is_table (table ms) t h = let same : Some t ≡ Some ms = h in let e : t ≡ ms = cc in ap table (sym e)
is_table (string s) t h = let no : Some t ≡ None = h in cc
is_table (integer z) t h = let no : Some t ≡ None = h in cc
is_table (float x) t h = let no : Some t ≡ None = h in cc
is_table (boolean b) t h = let no : Some t ≡ None = h in cc
is_table (datetime x) t h = let no : Some t ≡ None = h in cc
is_table (array ds) t h = let no : Some t ≡ None = h in cc

-- the next item alone, and the tables so far with it
module _ {A : Type 0} (of : Members → A) (fault_of : List A → Members → Option ConfigFault) where
  pub no_table : (earlier : List A) (d : Data) → None ≡ as_table d →
      in_turn of fault_of earlier (item d no_items) ≡ Some (fault.Range top)
  no_table earlier (table ms) h = let no : None ≡ Some ms = h in cc
  no_table earlier (string s) h = refl
  no_table earlier (integer z) h = refl
  no_table earlier (float x) h = refl
  no_table earlier (boolean b) h = refl
  no_table earlier (datetime x) h = refl
  no_table earlier (array ds) h = refl

  pub refused_table : {B : Type 0} (earlier : List A) (d : Data) (t : Members) (f : ConfigFault) (Is : A → Type 0) (Are : B → Type 0) →
      Some t ≡ as_table d → Judged (Err f) (fault_of earlier t) Is →
      Judged (Err f) (in_turn of fault_of earlier (item d no_items)) Are
  refused_table earlier d t f Is Are some h =
      carried f (fault_of earlier t) (in_turn of fault_of earlier (item d no_items)) Is Are
      (λ found. rw (is_table d t some, found) refl) h

  pub accepted_table : (earlier : List A) (d : Data) (t : Members) (a : A) → Some t ≡ as_table d →
      fault_of earlier t ≡ None → a ≡ of t →
      (in_turn of fault_of earlier (item d no_items) ≡ None) × (earlier ++ a ∷ [] ≡ earlier ++ all_of of (item d no_items))
  accepted_table earlier d t a some none is = (rw (is_table d t some, none) refl, rw (is_table d t some, is) refl)

  or_none : (first later : Option ConfigFault) → option_or first later ≡ option_or (option_or first None) later
  or_none None later = refl
  or_none (Some f) later = refl

  parted : (earlier : List A) (d : Data) (rest : Items) → in_turn of fault_of earlier (item d rest) ≡
      option_or (in_turn of fault_of earlier (item d no_items))
      (in_turn of fault_of (earlier ++ all_of of (item d no_items)) rest)
  parted earlier (table ms) rest = or_none (fault_of earlier ms) (in_turn of fault_of (earlier ++ of ms ∷ []) rest)
  parted earlier (string s) rest = refl
  parted earlier (integer z) rest = refl
  parted earlier (float x) rest = refl
  parted earlier (boolean b) rest = refl
  parted earlier (datetime x) rest = refl
  parted earlier (array ds) rest = refl

  -- of a list of values the next is judged, where this is left of what is found of all of them
  module _ (values : List Value) (earlier : List A) (i : ℕ) (value d : Value)
      (within : i < length values) (is : value ≡ get_or values i d)
      (left : in_turn of fault_of earlier (items_view (drop i values)) ≡ in_turn of fault_of [] (items_view values)) where
    found_next : option_or (in_turn of fault_of earlier (item (view value) no_items))
        (in_turn of fault_of (earlier ++ all_of of (item (view value) no_items)) (items_view (drop (i + 1) values)))
        ≡ in_turn of fault_of [] (items_view values)
    found_next =
        sym (parted earlier (view value) (items_view (drop (i + 1) values))) ∙
        sym (ap (in_turn of fault_of earlier) (next_data values i value d within is)) ∙ left

    pub refused_item : {B C : Type 0} (f : ConfigFault) (Is : B → Type 0) (Are : C → Type 0) →
        Judged (Err f) (in_turn of fault_of earlier (item (view value) no_items)) Is →
        Judged (Err f) (in_turn of fault_of [] (items_view values)) Are
    refused_item f Is Are h =
        carried f (in_turn of fault_of earlier (item (view value) no_items)) (in_turn of fault_of [] (items_view values)) Is Are
        (λ found. sym found_next ∙ rw found refl) h

    pub accepted_item : (more : List A) → in_turn of fault_of earlier (item (view value) no_items) ≡ None →
        more ≡ earlier ++ all_of of (item (view value) no_items) →
        earlier ++ all_of of (items_view (drop i values)) ≡ all_of of (items_view values) → length earlier ≡ i →
        (in_turn of fault_of more (items_view (drop (i + 1) values)) ≡ in_turn of fault_of [] (items_view values)) ×
        (more ++ all_of of (items_view (drop (i + 1) values)) ≡ all_of of (items_view values)) ×
        (length more ≡ i + 1)
    accepted_item more none all read count =
        let one : List A = all_of of (item (view value) no_items) in
        let rest : Items = items_view (drop (i + 1) values) in
        let found = rw none at found_next in
        let lists : earlier ++ all_of of (item (view value) rest) ≡ all_of of (items_view values) =
        sym (ap (λ items. earlier ++ all_of of items) (next_data values i value d within is)) ∙ read in (
          rw all found,
          ap (λ others. others ++ all_of of rest) all ∙ append_assoc earlier one (all_of of rest) ∙ lists,
          omega (arith, length-append earlier one, count, ap length all),
        )
