-- Turns that are sorted by rank stand in order.
use Rattle.std.proofs.Common.{◌≡◌, ℕ, zero, suc, ◌+◌, ◌-◌, ◌<◌, ◌≤◌, List, [], ◌∷◌, length, map, get_or, Bool, false, ltb, eqb, Option, Some, None, slice_get, unwrap_or, option_map, option_and_then, refl, sym, ap, ap₂, ◌∙◌, subst, IsPermutation, nat_cmp, is_lt, arith}
use Rattle.std.specs.Ordering.{ordering_then}
use Rattle.std.specs.List.{AllByRecursion, IsDistinct}
use Rattle.std.specs.List.Sorted.{IsNonDecreasing, IsNonDecreasingBy}
use Rattle.std.proofs.lemmas.List.Elements.{All-from_recursion, recursion_from_All}
use Rattle.std.proofs.lemmas.List.Sorted.{All-permutation, IsPermutation-map, IsNonDecreasingBy-from_all_adjacent}
use Rattle.us_flows.specs.Tables.{Tables, FlowTable}
use Rattle.us_flows.specs.Clusters as clusters
use Rattle.us_flows.specs.Clusters.{turns_from, goes_before, in_order, turns_of}
use Rattle.us_flows.specs.Turns.{turn_at, in_flow}
use Rattle.us_flows.specs.Lawful.{AreApart}
use Rattle.us_flows.specs.Ranks.{table_turns, rank_in, rank_of, IsRanked}
use Rattle.us_flows.specs.declared.turns.Turn.{Turn}
use Rattle.us_flows.specs.declared.flows.SchedulingType.TheVariants.{BestEffort}
use Rattle.us_flows.proofs.RankLemmas.{all_more, sorted-in_place}
use Rattle.us_flows.proofs.TurnLemmas.{turn_in, flows_turns, number_rises, before_is, InRange, turn_rank, cluster_rank, in_range, clusters_in, all_turned, ranks_apart}

-- what a turn's places lead to; `blank` stands where they lead nowhere
abbrev blank : clusters.Turn
blank = record {
  number = 0;
  place = 0;
  cluster = record {
    flow = record {
      id = 0;
      kind = BestEffort;
      channels = [];
      clusters = [];
      priority = 0;
      rate = 0;
      burst = 0;
      min_rate = 0;
      unit = 0;
      headers = false;
      start_us = 0;
      interval_us = 0;
      jitter_us = 0;
      grant_bytes = 0;
      grants_per_interval = 0;
    };
    list = 0;
    sids = [];
  };
}

abbrev made : List FlowTable → Turn → clusters.Turn
made flows turn = unwrap_or (turn_in flows turn) blank

record IsMade (flows : List FlowTable) (turn : Turn) : Type 0 where
  pub found : turn_in flows turn ≡ Some (made flows turn)
  pub range : InRange (made flows turn).cluster

module _ (flows : List FlowTable) where
  are_made : (us : List Turn) (ts : List clusters.Turn) → map (turn_in flows) us ≡ map Some ts →
      AllByRecursion (λ t. InRange t.cluster) ts → AllByRecursion (IsMade flows) us × (map (made flows) us ≡ ts)
  are_made [] [] h ranges = (tt, refl)
  are_made [] (t ∷ ts) h ranges = let no : [] ≡ Some t ∷ map Some ts = h in cc
  are_made (u ∷ us) [] h ranges = let no : turn_in flows u ∷ map (turn_in flows) us ≡ [] = h in cc
  are_made (u ∷ us) (t ∷ ts) h ranges =
      let both : turn_in flows u ∷ map (turn_in flows) us ≡ Some t ∷ map Some ts = h in
      let first : turn_in flows u ≡ Some t = cc in
      let rest : map (turn_in flows) us ≡ map Some ts = cc in
      let is : made flows u ≡ t = ap (λ o. unwrap_or o blank) first in
      let more = are_made us ts rest ranges.1 in (
        (
          record { found = first ∙ ap Some (sym is); range = subst (λ x. InRange x.cluster) (sym is) ranges.0 },
          more.0,
        ),
        ap₂ (λ a b. a ∷ b) is more.1,
      )

  turns_made : (us : List Turn) → AllByRecursion (IsMade flows) us →
      map (turn_in flows) us ≡ map Some (map (made flows) us)
  turns_made [] h = refl
  turns_made (u ∷ us) h = ap₂ (λ a b. a ∷ b) h.0.found (turns_made us h.1)

  -- a rank is that of what the places lead to
  rank_found : (u : Turn) (flow : Option FlowTable) (turn : clusters.Turn) →
      option_and_then (in_flow u) flow ≡ Some turn →
      rank_in u.list flow ≡ (255 - turn.cluster.flow.priority, turn.cluster.flow.id, turn.cluster.list)
  rank_found u None turn h = let no : None ≡ Some turn = h in cc
  rank_found u (Some f) turn h = by (slice_get f.clusters u.list) h
    where
      by : (lists : Option (List ℕ)) →
          option_map (λ sids. record {
            number = u.cluster;
            place = u.flow;
            cluster = record { flow = f; list = u.list; sids = sids };
          }) lists ≡ Some turn →
          rank_in u.list (Some f) ≡ (255 - turn.cluster.flow.priority, turn.cluster.flow.id, turn.cluster.list)
      by None e = let no : None ≡ Some turn = e in cc
      by (Some sids) e =
          ap (λ o.
          let x : clusters.Turn = unwrap_or o blank in
          (255 - x.cluster.flow.priority, x.cluster.flow.id, x.cluster.list)) e

  rank_is : (turn : Turn) → IsMade flows turn →
      rank_of flows turn ≡ (
        255 - (made flows turn).cluster.flow.priority,
        (made flows turn).cluster.flow.id,
        (made flows turn).cluster.list,
      )
  rank_is turn is = rank_found turn (slice_get flows turn.flow) (made flows turn) is.found

  abbrev compares : Turn → Turn → Bool
  compares one other =
      is_lt (ordering_then
      (ordering_then (nat_cmp (rank_of flows one).0 (rank_of flows other).0)
      (nat_cmp (rank_of flows one).1 (rank_of flows other).1))
      (nat_cmp (rank_of flows one).2 (rank_of flows other).2))

  not_lower : (a b : Turn) → IsMade flows a → IsMade flows b → compares b a ≡ false →
      turn_rank (made flows a) ≤ turn_rank (made flows b)
  not_lower a b is_a is_b h =
      let x : clusters.Turn = made flows a in
      let y : clusters.Turn = made flows b in
      let both = ap₂ (λ p q.
      is_lt (ordering_then (ordering_then (nat_cmp p.0 q.0) (nat_cmp p.1 q.1)) (nat_cmp p.2 q.2)))
      (rank_is b is_b) (rank_is a is_a) in
      number_rises (255 - x.cluster.flow.priority) x.cluster.flow.id x.cluster.list
      (255 - y.cluster.flow.priority) y.cluster.flow.id y.cluster.list
      is_a.range.flow.id is_a.range.list is_b.range.flow.id is_b.range.list (sym both ∙ h)

get_or-mapped : {X : Type 0} (f : X → ℕ) (xs : List X) (i d : ℕ) (e : X) → i < length xs →
    get_or (map f xs) i d ≡ f (get_or xs i e)
get_or-mapped f [] i d e within = absurd (omega (arith, within))
get_or-mapped f (x ∷ xs) zero d e within = refl
get_or-mapped f (x ∷ xs) (suc i) d e within = get_or-mapped f xs i d e (omega (arith, within))

length-mapped : {X Y : Type 0} (f : X → Y) (xs : List X) → length (map f xs) ≡ length xs
length-mapped f [] = refl
length-mapped f (x ∷ xs) = omega (arith, length-mapped f xs)

rises-mapped : {X : Type 0} (f : X → ℕ) (xs : List X) (e : X) → IsNonDecreasingBy f xs → IsNonDecreasing (map f xs)
rises-mapped f xs e rises i j d low high =
    let within : j < length xs = omega (arith, high, length-mapped f xs) in
    let next = rises i j e low within in
    omega (arith, next, get_or-mapped f xs i d e (omega (arith, low, within)), get_or-mapped f xs j d e within)

map-mapped : {X Y Z : Type 0} (f : Y → Z) (g : X → Y) (xs : List X) → map f (map g xs) ≡ map (λ x. f (g x)) xs
map-mapped f g [] = refl
map-mapped f g (x ∷ xs) = ap (λ more. f (g x) ∷ more) (map-mapped f g xs)

in_order-is : (flows : List FlowTable) (us : List Turn) → AllByRecursion IsRanked flows →
    AreApart (map (λ f. f.id) flows) → IsPermutation (table_turns 0 0 flows) us →
    ((k : ℕ) (d : Turn) → 0 ≤ k → k + 1 < length us → compares flows (get_or us (k + 1) d) (get_or us k d) ≡ false) →
    map (turn_in flows) us ≡ map Some (in_order (turns_from 0 0 flows))
in_order-is flows us ranges apart moved sorted =
    let ts : List clusters.Turn = turns_from 0 0 flows in
    let first : List Turn = table_turns 0 0 flows in
    let in_ranges = all_turned InRange 0 0 flows (in_range flows ranges) in
    let before = are_made flows first ts (flows_turns flows [] flows 0 refl) in_ranges in
    let all = All-permutation (IsMade flows) first us moved (All-from_recursion (IsMade flows) first before.0) in
    let turns = map (made flows) us in
    let moved_turns : IsPermutation ts turns =
    subst (λ xs. IsPermutation xs turns) before.1 (IsPermutation-map (made flows) first us moved) in
    let rank : Turn → ℕ = λ turn. turn_rank (made flows turn) in
    let rises = IsNonDecreasingBy-from_all_adjacent rank us
    (λ k d within. not_lower flows (get_or us k d) (get_or us (k + 1) d) (all k d (omega (arith, within)))
    (all (k + 1) d within) (sorted k d (omega arith) within)) in
    let none : Turn = record { flow = 0; list = 0; cluster = 0 } in
    let rising : IsNonDecreasing (map turn_rank turns) =
    subst IsNonDecreasing (sym (map-mapped turn_rank (made flows) us)) (rises-mapped rank us none rises) in
    let ranks : IsDistinct eqb (map turn_rank ts) =
    subst (IsDistinct eqb) (sym (ap (map cluster_rank) (clusters_in 0 0 flows)) ∙
    map-mapped cluster_rank (λ turn. turn.cluster) ts) (ranks_apart flows ranges apart) in
    let same = all_more (λ x. InRange x.cluster)
    (λ x. AllByRecursion (λ y. goes_before y x ≡ ltb (turn_rank y) (turn_rank x)) ts)
    (λ x is_x. all_more (λ y. InRange y.cluster) (λ y. goes_before y x ≡ ltb (turn_rank y) (turn_rank x))
    (λ y is_y. before_is y.cluster.flow.priority y.cluster.flow.id y.cluster.list x.cluster.flow.priority
    x.cluster.flow.id x.cluster.list is_y.flow.priority is_x.flow.priority is_y.flow.id is_x.flow.id is_y.list
    is_x.list) ts in_ranges) ts in_ranges in
    turns_made flows us (recursion_from_All (IsMade flows) us all) ∙ sym (ap (map Some)
    (sorted-in_place goes_before turn_rank ts turns same ranks moved_turns rising))

pub turns_of-is : (flows : List FlowTable) (us : List Turn) → AllByRecursion IsRanked flows →
    AreApart (map (λ f. f.id) flows) → IsPermutation (table_turns 0 0 flows) us →
    ((k : ℕ) (d : Turn) → 0 ≤ k → k + 1 < length us → compares flows (get_or us (k + 1) d) (get_or us k d) ≡ false) →
    (t : Tables) → t.flows ≡ flows → map (turn_at t) us ≡ map Some (turns_of t)
unfolding turns_of
turns_of-is flows us ranges apart moved sorted t is =
    ap (λ fs. map (turn_in fs) us) is ∙ in_order-is flows us ranges apart moved sorted ∙ sym (ap
    (λ fs. map Some (in_order (turns_from 0 0 fs))) is)
