-- Who asks and who is pending, by places among the turns of a round.
use Rattle.std.proofs.Common.{◌≡◌, ◌≢◌, ◌⊎◌, ℕ, zero, suc, ◌+◌, ◌<◌, ◌≤◌, List, [], ◌∷◌, length, map, set, get_or, take, Option, Some, None, slice_get, option_map, option_and_then, refl, ap, sym, subst, ◌∙◌, inl, inr, get_or-set_same, get_or-set_other, arith}
use Rattle.std.specs.Prelude.{filter_map, slice_index_or}
use Rattle.std.specs.List.{AllByRecursion, cons_option}
use Rattle.std.proofs.lemmas.Bool.{cases_eq}
use Rattle.std.proofs.lemmas.List.{get_or-map, length-map, take_more}
use Rattle.std.proofs.lemmas.Option.{slice_get_within}
use Rattle.us_flows.specs.Tables.{Tables, FlowTable}
use Rattle.us_flows.specs.Clusters.{Turn, turns_of}
use Rattle.us_flows.specs.Turns.{turn_at, in_flow}
use Rattle.us_flows.specs.declared.turns.Turn as places
use Rattle.us_bucket.specs.Levels.{Level, bytes_in, full}
use Rattle.us_split.specs.Asking.{asking, is_pending, numbers_of, pending_places, turns_at}
use Rattle.us_split.proofs.AskingLaws.{map_passing}
use Rattle.us_split.proofs.AskerStepLemmas.{listed-below}
use Rattle.us_output.specs.Outputs.{first_sid}
use Rattle.us_output.specs.Leftovers.{still_asking}
use Rattle.us_output.proofs.PartLemmas.{all_append}
use Rattle.us_round.specs.Cores.{AreAllowed, IsAllowed, first_sid_at}

-- Places among the turns.

-- the flows of turns are there
flow_inside : (t : Tables) (u : places.Turn) (turn : Turn) → turn_at t u ≡ Some turn → u.flow < length t.flows
flow_inside t u turn is = by (slice_get t.flows u.flow) refl is
  where
    by : (found : Option FlowTable) → slice_get t.flows u.flow ≡ found → option_and_then (in_flow u) found ≡ Some turn →
        u.flow < length t.flows
    by None at here = absurd (cc here)
    by (Some flow) at here = slice_get_within t.flows u.flow flow at

pub flows_inside : (t : Tables) (turns : List places.Turn) (all : List Turn) → map (turn_at t) turns ≡ map Some all →
    AllByRecursion (λ turn. turn.flow < length t.flows) turns
flows_inside t [] all same = tt
flows_inside t (u ∷ turns) [] same = absurd (cc same)
flows_inside t (u ∷ turns) (x ∷ all) same =
    let both : turn_at t u ∷ map (turn_at t) turns ≡ Some x ∷ map Some all = same in
    let here : turn_at t u ≡ Some x = cc in
    let rest : map (turn_at t) turns ≡ map Some all = cc in
    (flow_inside t u x here, flows_inside t turns all rest)

-- those who ask have places among them
pub askers_inside : (t : Tables) (turns : List places.Turn) (outstanding numbers list : List ℕ) →
    map (turn_at t) turns ≡ map Some (turns_of t) → numbers ≡ numbers_of (turns_of t) → list ≡ asking outstanding numbers →
    AllByRecursion (λ place. place < length turns) list
askers_inside t turns outstanding numbers list same own is =
    let long : length numbers ≡ length turns =
    ap length own ∙ length-map (turns_of t) (λ turn. turn.number) ∙ sym (length-map (turns_of t) Some) ∙ sym (ap length same)
    ∙ length-map turns (turn_at t) in
    subst (λ n. AllByRecursion (λ place. place < n) list) long (listed-below numbers outstanding list is)

-- what stands at a place
pub turn_found : (t : Tables) (turns : List places.Turn) (all : List Turn) (place : ℕ) (turn : places.Turn) →
    map (turn_at t) turns ≡ map Some all → place < length turns → turn ≡ get_or turns place turn →
    slice_get all place ≡ turn_at t turn
turn_found t [] all place turn same inside is = absurd (omega (arith, inside))
turn_found t (u ∷ turns) [] place turn same inside is = absurd (cc same)
turn_found t (u ∷ turns) (x ∷ all) zero turn same inside is =
    let both : turn_at t u ∷ map (turn_at t) turns ≡ Some x ∷ map Some all = same in
    let here : turn_at t u ≡ Some x = cc in
    sym here ∙ ap (turn_at t) (sym is)
turn_found t (u ∷ turns) (x ∷ all) (suc place) turn same inside is =
    let both : turn_at t u ∷ map (turn_at t) turns ≡ Some x ∷ map Some all = same in
    let rest : map (turn_at t) turns ≡ map Some all = cc in
    turn_found t turns all place turn rest (omega (arith, inside)) is

pub no_turn : (t : Tables) (turns : List places.Turn) (all : List Turn) (place : ℕ) →
    map (turn_at t) turns ≡ map Some all → length turns ≤ place → slice_get all place ≡ None
no_turn t turns [] place same past = refl
no_turn t [] (x ∷ all) place same past = absurd (cc same)
no_turn t (u ∷ turns) (x ∷ all) zero same past = absurd (omega (arith, past))
no_turn t (u ∷ turns) (x ∷ all) (suc place) same past =
    let both : turn_at t u ∷ map (turn_at t) turns ≡ Some x ∷ map Some all = same in
    let rest : map (turn_at t) turns ≡ map Some all = cc in
    no_turn t turns all place rest (omega (arith, past))

-- the turn as places that leads to a turn
pub record Leads (t : Tables) (turns : List places.Turn) (place : ℕ) (turn : Turn) : Type 0 where
  pub own : places.Turn
  pub at : slice_get turns place ≡ Some own
  pub leads : turn_at t own ≡ Some turn

pub leading : (t : Tables) (turns : List places.Turn) (all : List Turn) (place : ℕ) (turn : Turn) →
    map (turn_at t) turns ≡ map Some all → slice_get all place ≡ Some turn → Leads t turns place turn
leading t turns [] place turn same at = absurd (cc at)
leading t [] (x ∷ all) place turn same at = absurd (cc same)
leading t (u ∷ turns) (x ∷ all) zero turn same at =
    let both : turn_at t u ∷ map (turn_at t) turns ≡ Some x ∷ map Some all = same in
    let here : turn_at t u ≡ Some x = cc in
    record { own = u; at = refl; leads = here ∙ at }
leading t (u ∷ turns) (x ∷ all) (suc place) turn same at =
    let both : turn_at t u ∷ map (turn_at t) turns ≡ Some x ∷ map Some all = same in
    let rest : map (turn_at t) turns ≡ map Some all = cc in
    let more = leading t turns all place turn rest at in
    record { own = more.own; at = more.at; leads = more.leads }

pub place_is : (t : Tables) (u : places.Turn) (turn : Turn) → turn_at t u ≡ Some turn → turn.place ≡ u.flow
place_is t u turn is = by (slice_get t.flows u.flow) is
  where
    in_list : (flow : FlowTable) (sids : Option (List ℕ)) → option_map (λ s. record {
      number = u.cluster;
      place = u.flow;
      cluster = record { flow = flow; list = u.list; sids = s };
    }) sids ≡ Some turn → turn.place ≡ u.flow
    in_list flow None here = absurd (cc here)
    in_list flow (Some sids) here =
        let made : Turn = record { number = u.cluster; place = u.flow; cluster = record { flow = flow; list = u.list; sids = sids } } in
        let same : made ≡ turn = cc in
        sym (ap (λ (x : Turn). x.place) same)

    by : (flow : Option FlowTable) → option_and_then (in_flow u) flow ≡ Some turn → turn.place ≡ u.flow
    by None here = absurd (cc here)
    by (Some flow) here = in_list flow (slice_get flow.clusters u.list) here

-- Allowances.

-- an allowance noted is right, and leaves others right
allowed_too : (turns : List places.Turn) (levels : List Level) (allowances : List (Option ℕ)) (flow : ℕ) (most : Option ℕ)
    (place : ℕ) → length allowances ≡ length levels → flow < length levels →
    ((d : Level) → most ≡ bytes_in (get_or levels flow d)) →
    ((turn : places.Turn) → slice_get turns place ≡ Some turn →
    (turn.flow ≡ flow) ⊎ (slice_index_or allowances turn.flow None ≡ slice_index_or (map bytes_in levels) turn.flow None)) →
    IsAllowed turns levels (set allowances flow most) place
allowed_too turns levels allowances flow most place long inside is either turn at = elim (cases_eq turn.flow flow) [
  | inl same ↦
      let none : Level = full 0 0 in
      let here : get_or (set allowances flow most) flow None ≡ most =
      get_or-set_same allowances flow most None (omega (arith, inside, long)) in
      rw same (here ∙ is none ∙ sym (get_or-map bytes_in levels flow none None inside))
  | inr other ↦
      get_or-set_other allowances flow turn.flow most None other ∙ as_before (either turn at) other
]
  where
    as_before : (turn.flow ≡ flow)
        ⊎ (slice_index_or allowances turn.flow None ≡ slice_index_or (map bytes_in levels) turn.flow None) →
        turn.flow ≢ flow → slice_index_or allowances turn.flow None ≡ slice_index_or (map bytes_in levels) turn.flow None
    as_before (inl same) other = absurd (other same)
    as_before (inr was) other = was

all_allowed_too : (turns : List places.Turn) (levels : List Level) (allowances : List (Option ℕ)) (flow : ℕ)
    (most : Option ℕ) (these : List ℕ) → length allowances ≡ length levels → flow < length levels →
    ((d : Level) → most ≡ bytes_in (get_or levels flow d)) → AreAllowed turns levels allowances these →
    AreAllowed turns levels (set allowances flow most) these
all_allowed_too turns levels allowances flow most [] long inside is are = tt
all_allowed_too turns levels allowances flow most (place ∷ these) long inside is are = (
  allowed_too turns levels allowances flow most place long inside is (λ turn at. inr (are.0 turn at)),
  all_allowed_too turns levels allowances flow most these long inside is are.1,
)

-- one more
pub allowed_more : (turns : List places.Turn) (levels : List Level) (allowances : List (Option ℕ)) (these : List ℕ)
    (i place : ℕ) (own : places.Turn) (most : Option ℕ) → length allowances ≡ length levels → i < length these →
    place ≡ get_or these i 0 → slice_get turns place ≡ Some own → own.flow < length levels →
    ((d : Level) → most ≡ bytes_in (get_or levels own.flow d)) → AreAllowed turns levels allowances (take i these) →
    AreAllowed turns levels (set allowances own.flow most) (take (i + 1) these)
allowed_more turns levels allowances these i place own most long inside is at known allows are =
    let here : (turn : places.Turn) → slice_get turns (get_or these i 0) ≡ Some turn → turn.flow ≡ own.flow =
    λ turn found.
    let same : Some turn ≡ Some own = sym found ∙ ap (slice_get turns) (sym is) ∙ at in
    let turns_same : turn ≡ own = cc in
    ap (λ (x : places.Turn). x.flow) turns_same in
    subst (AreAllowed turns levels (set allowances own.flow most)) (sym (take_more these i 0 inside))
    (all_append (IsAllowed turns levels (set allowances own.flow most)) (take i these) (get_or these i 0 ∷ [])
    (all_allowed_too turns levels allowances own.flow most (take i these) long known allows are) (
      allowed_too turns levels allowances own.flow most (get_or these i 0) long known allows
          (λ turn found. inl (here turn found)),
      tt,
    ))

-- so it is of the flows of those turns
abbrev pub Allows : List Level → List (Option ℕ) → Turn → Type 0
Allows levels allowances turn =
    slice_index_or allowances turn.place None ≡ slice_index_or (map bytes_in levels) turn.place None

pub allows_each : (t : Tables) (turns : List places.Turn) (levels : List Level) (allowances : List (Option ℕ)) (these : List ℕ) →
    map (turn_at t) turns ≡ map Some (turns_of t) → AreAllowed turns levels allowances these →
    AllByRecursion (Allows levels allowances) (turns_at (turns_of t) these)
allows_each t turns levels allowances [] same are = tt
allows_each t turns levels allowances (place ∷ these) same are =
    by (slice_get (turns_of t) place) refl (allows_each t turns levels allowances these same are.1)
  where
    by : (found : Option Turn) → slice_get (turns_of t) place ≡ found →
        AllByRecursion (Allows levels allowances) (turns_at (turns_of t) these) →
        AllByRecursion (Allows levels allowances) (cons_option found (turns_at (turns_of t) these))
    by None at rest = rest
    by (Some turn) at rest =
        let led = leading t turns (turns_of t) place turn same at in
        let here : turn.place ≡ led.own.flow = place_is t led.own turn led.leads in
        (rw here (are.0 led.own led.at), rest)

-- Pendings.

at_places : (t : Tables) (these : List ℕ) →
    filter_map (first_sid_at t) these ≡ filter_map first_sid (turns_at (turns_of t) these)
at_places t [] = refl
at_places t (place ∷ these) = by (slice_get (turns_of t) place) (at_places t these)
  where
    by : (found : Option Turn) → filter_map (first_sid_at t) these ≡ filter_map first_sid (turns_at (turns_of t) these) →
        cons_option (option_and_then first_sid found) (filter_map (first_sid_at t) these)
        ≡ filter_map first_sid (cons_option found (turns_at (turns_of t) these))
    by None more = more
    by (Some turn) more = ap (cons_option (first_sid turn)) more

-- those that wait are those that are still asking
pub pendings_are : (t : Tables) (before left : List ℕ) →
    filter_map (first_sid_at t) (pending_places before left (numbers_of (turns_of t)))
    ≡ filter_map (still_asking before left) (turns_of t)
pendings_are t before left =
    at_places t (pending_places before left (numbers_of (turns_of t))) ∙ map_passing (is_pending before left) first_sid (turns_of t)
