-- The turns of a configuration, as places and as clusters, one by one.
use Rattle.std.proofs.Common.{◌≡◌, ℕ, zero, suc, ◌+◌, ◌*◌, Bool, true, false, flat_map, if◌then◌else◌, ◌<◌, ◌≤◌, List, [], ◌∷◌, length, map, drop, get_or, Option, Some, None, slice_get, option_map, option_and_then, refl, sym, ap, ap₂, subst, add-one, arith}
use Rattle.std.specs.Prelude.{count_by}
use Rattle.std.specs.List.{AllByRecursion}
use Rattle.std.proofs.lemmas.List.{length-append}
use Rattle.std.proofs.lemmas.List.Concat.{flat_map-cons}
use Rattle.std.proofs.lemmas.List.Sums.{sum_by-cons}
use Rattle.std.proofs.lemmas.Option.{slice_get_within, get_or_from_slice_get}
use Rattle.std.proofs.lemmas.List.Elements.{All-from_recursion}
use Rattle.us_flows.specs.Tables.{Tables, FlowTable}
use Rattle.us_flows.specs.Clusters.{Turn, clusters_from, clusters_of, in_order, makes_requests, requesting, table_order, turns_of, words_of}
use Rattle.us_flows.specs.Turns.{turn_at, in_flow}
use Rattle.us_flows.specs.Lawful.{AreApart, AreTables, IsFlow}
use Rattle.us_flows.specs.declared.turns.Turn as places
use Rattle.us_flows.proofs.WordLemmas.{few_words-tables}
use Rattle.us_flows.proofs.TurnLaws.{in_order-few, table_order-length}
use Rattle.us_split.specs.PartialPlans.{IsTurnOf, IsSmall}

-- an item of the one list leads to that of the other
at_item : {X Y : Type 0} (f : X → Option Y) (xs : List X) (ys : List Y) (i : ℕ) (d : X) → map f xs ≡ map Some ys →
    i < length xs → (y : Y) × (f (get_or xs i d) ≡ Some y) × (drop i ys ≡ y ∷ drop (suc i) ys)
at_item f [] ys i d same within = absurd (omega arith)
at_item f (x ∷ xs) [] i d same within = let no : f x ∷ map f xs ≡ [] = same in cc
at_item f (x ∷ xs) (y ∷ ys) zero d same within =
    let both : f x ∷ map f xs ≡ Some y ∷ map Some ys = same in
    let first : f x ≡ Some y = cc in
    (y, first, refl)
at_item f (x ∷ xs) (y ∷ ys) (suc i) d same within =
    let both : f x ∷ map f xs ≡ Some y ∷ map Some ys = same in
    let rest : map f xs ≡ map Some ys = cc in
    at_item f xs ys i d rest (omega arith)

-- a turn as places, at its place among the turns
pub record TurnAt (t : Tables) (u : places.Turn) (i : ℕ) : Type 0 where
  pub turn : Turn
  pub rest : drop i (turns_of t) ≡ turn ∷ drop (i + 1) (turns_of t)
  pub within : u.flow < length t.flows
  pub list : (d : FlowTable) → u.list < length (get_or t.flows u.flow d).clusters
  pub own : (d : FlowTable) → IsTurnOf u (get_or t.flows u.flow d) turn
  pub number : turn.number ≡ u.cluster

record Led (t : Tables) (u : places.Turn) (turn : Turn) : Type 0 where
  flow : FlowTable
  at : slice_get t.flows u.flow ≡ Some flow
  is : IsTurnOf u flow turn

led : (t : Tables) (u : places.Turn) (turn : Turn) → turn_at t u ≡ Some turn → Led t u turn
led t u turn is = by (slice_get t.flows u.flow) refl is
  where
    known : (flow : FlowTable) (sids : Option (List ℕ)) → slice_get t.flows u.flow ≡ Some flow →
        slice_get flow.clusters u.list ≡ sids → option_map (λ s. record {
          number = u.cluster;
          place = u.flow;
          cluster = record { flow = flow; list = u.list; sids = s };
        }) sids ≡ Some turn → Led t u turn
    known flow None at here is = let no : None ≡ Some turn = is in cc
    known flow (Some sids) at here is =
        let made : Turn = record {
          number = u.cluster;
          place = u.flow;
          cluster = record { flow = flow; list = u.list; sids = sids };
        } in
        let found : Some made ≡ Some turn = is in
        let same : made ≡ turn = cc in
        let own : IsTurnOf u flow made = record { number = refl; place = refl; list = refl; own = refl; sids = here } in
        subst (Led t u) same (record { flow = flow; at = at; is = own })

    by : (found : Option FlowTable) → slice_get t.flows u.flow ≡ found → option_and_then (in_flow u) found ≡ Some turn →
        Led t u turn
    by None at is = let no : None ≡ Some turn = is in cc
    by (Some flow) at is = known flow (slice_get flow.clusters u.list) at refl is

pub turn_of : (t : Tables) (us : List places.Turn) (i : ℕ) (d : places.Turn) →
    map (turn_at t) us ≡ map Some (turns_of t) → i < length us → TurnAt t (get_or us i d) i
turn_of t us i d same within =
    let u : places.Turn = get_or us i d in
    let found = at_item (turn_at t) us (turns_of t) i d same within in
    let is = led t u found.0 found.1 in
    let read : (f : FlowTable) → get_or t.flows u.flow f ≡ is.flow =
    λ f. get_or_from_slice_get t.flows u.flow is.flow f is.at in
    record {
      turn = found.0;
      rest = rw add-one found.2;
      within = slice_get_within t.flows u.flow is.flow is.at;
      list = λ f. subst (λ flow. u.list < length flow.clusters) (sym (read f))
          (slice_get_within is.flow.clusters u.list found.0.cluster.sids is.is.sids);
      own = λ f. subst (λ flow. IsTurnOf u flow found.0) (sym (read f)) is.is;
      number = is.is.number;
    }

length_both : (t : Tables) (us : List places.Turn) (ts : List Turn) → map (turn_at t) us ≡ map Some ts →
    length us ≡ length ts
length_both t [] [] same = refl
length_both t [] (x ∷ ts) same = let no : [] ≡ Some x ∷ map Some ts = same in cc
length_both t (u ∷ us) [] same = let no : turn_at t u ∷ map (turn_at t) us ≡ [] = same in cc
length_both t (u ∷ us) (x ∷ ts) same =
    let both : turn_at t u ∷ map (turn_at t) us ≡ Some x ∷ map Some ts = same in
    let rest : map (turn_at t) us ≡ map Some ts = cc in
    ap suc (length_both t us ts rest)

pub no_turns : (t : Tables) (us : List places.Turn) (i : ℕ) → map (turn_at t) us ≡ map Some (turns_of t) →
    length us ≤ i → length (turns_of t) ≤ i
no_turns t us i same past = omega (arith, length_both t us (turns_of t) same)

-- a flow has few channels, and there are few flows
pub few_channels : (t : Tables) (place : ℕ) (d : FlowTable) → AreTables t → place < length t.flows →
    length (get_or t.flows place d).channels ≤ 8
few_channels t place d lawful within =
    (All-from_recursion (IsFlow t) t.flows lawful.flows place d within).some_channels.1

-- which are apart
pub channels_apart : (t : Tables) (place : ℕ) (d : FlowTable) → AreTables t → place < length t.flows →
    AreApart (get_or t.flows place d).channels
channels_apart t place d lawful within =
    (All-from_recursion (IsFlow t) t.flows lawful.flows place d within).apart

-- and few clusters, so that a place has 16 bits
few_of_flow : (list : ℕ) (flow : FlowTable) (rest : List (List ℕ)) → length (clusters_from flow list rest) ≡ length rest
few_of_flow list flow [] = refl
few_of_flow list flow (sids ∷ rest) = ap suc (few_of_flow (list + 1) flow rest)

few_requesting : (t : Tables) (flow : FlowTable) → IsFlow t flow → length (requesting flow) ≤ 2
few_requesting t flow is = by (makes_requests flow.kind)
  where
    by : (b : Bool) → length (if b then clusters_from flow 0 flow.clusters else []) ≤ 2
    by true = omega (arith, few_of_flow 0 flow flow.clusters, is.some_clusters.1)
    by false = omega arith

pub few_clusters : (t : Tables) (flows : List FlowTable) → AllByRecursion (IsFlow t) flows →
    length (flat_map requesting flows) ≤ 2 * length flows
few_clusters t [] all = omega arith
few_clusters t (flow ∷ flows) all =
    omega (arith, length-append (requesting flow) (flat_map requesting flows), ap length (flat_map-cons requesting flow flows), few_requesting t flow all.0, few_clusters t flows all.1)

all_counted : (ts : List Turn) → count_by (λ turn. true) ts ≡ length ts
all_counted [] = refl
all_counted (turn ∷ ts) = omega (arith, sum_by-cons (λ (turn : Turn). 1) turn ts, all_counted ts)

pub few_turns : (t : Tables) → length (turns_of t) ≤ length (clusters_of t)
unfolding turns_of
few_turns t =
    omega (arith, all_counted (in_order (table_order t)), all_counted (table_order t), in_order-few (λ turn. true) (table_order t), table_order-length t)

-- the place of a turn has 16 bits
pub place_small : (t : Tables) (us : List places.Turn) (i : ℕ) → AreTables t → map (turn_at t) us ≡ map Some (turns_of t) →
    i < length us → i < 65536
place_small t us i lawful same within =
    omega (arith, length_both t us (turns_of t) same, few_turns t, few_clusters t t.flows lawful.flows, lawful.few_flows)

-- and so have its parts
pub turn_small : (t : Tables) (u : places.Turn) (i : ℕ) → AreTables t → TurnAt t u i → u.cluster < length (words_of t) →
    IsSmall u
turn_small t u i lawful at number =
    let flow : FlowTable = get_or t.flows u.flow at.turn.cluster.flow in
    let is : IsFlow t flow = All-from_recursion (IsFlow t) t.flows lawful.flows u.flow at.turn.cluster.flow at.within in
    record {
      cluster = omega (arith, number, few_words-tables t lawful);
      flow = omega (arith, at.within, lawful.few_flows);
      list = omega (arith, at.list at.turn.cluster.flow, is.some_clusters.1);
    }

-- their clusters are those of the turns
pub numbers_are : (t : Tables) (us : List places.Turn) (ts : List Turn) → map (turn_at t) us ≡ map Some ts →
    map (λ u. u.cluster) us ≡ map (λ turn. turn.number) ts
numbers_are t [] [] same = refl
numbers_are t [] (turn ∷ ts) same = let no : [] ≡ Some turn ∷ map Some ts = same in cc
numbers_are t (u ∷ us) [] same = let no : turn_at t u ∷ map (turn_at t) us ≡ [] = same in cc
numbers_are t (u ∷ us) (turn ∷ ts) same =
    let both : turn_at t u ∷ map (turn_at t) us ≡ Some turn ∷ map Some ts = same in
    let first : turn_at t u ≡ Some turn = cc in
    let rest : map (turn_at t) us ≡ map Some ts = cc in
    let number : u.cluster ≡ turn.number = sym (led t u turn first).is.number in
    ap₂ (λ n ns. n ∷ ns) number (numbers_are t us ts rest)
