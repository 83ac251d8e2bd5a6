-- Who is pending: by the places of turns, and by the bytes that are left.
use Rattle.std.proofs.Common.{◌≡◌, ℕ, zero, suc, ◌+◌, ◌^◌, ◌<◌, ◌≤◌, nat_lt, ◌==◌, ◌&&◌, Bool, true, false, List, [], ◌∷◌, ◌++◌, length, map, take, drop, set, get_or, Option, Some, None, refl, ap, ap₂, sym, subst, ◌⊎◌, ◌∙◌, inl, inr, arith}
use Rattle.std.specs.Prelude.{zip, filter, filter_map, option_map, option_and_then, slice_get, slice_index}
use Rattle.std.specs.List.{AllByRecursion, cons_option}
use Rattle.std.proofs.lemmas.Bool.{cases_eq, cases_lt, eq-eqb, ne_eqb}
use Rattle.std.proofs.lemmas.List.{append-nil, drop_all, get_or_past, get_or-set_other, get_or-set_same, map-append}
use Rattle.std.proofs.lemmas.List.Elements.{filter-append}
use Rattle.std.proofs.lemmas.Option.{slice_get-get_or, slice_get-map, slice_get_past}
use Rattle.std.specs.Int.{IsInRange}
use Rattle.us_flows.specs.declared.turns.Turn as places
use Rattle.us_flows.specs.Tables.{Tables, FlowTable}
use Rattle.us_flows.specs.Turns.{turn_at, in_flow}
use Rattle.us_flows.specs.Clusters.{turns_of}
use Rattle.us_flows.specs.Lawful.{AreTables, IsFlow}
use Rattle.us_output.specs.Outputs.{first_sid, pendings_on}
use Rattle.us_output.specs.Leftovers.{AreDealt, still_asking, still_asking_at}
use Rattle.us_output.proofs.PartLemmas.{all_found, all_weaker}

-- turns that are told by their places
told : {A B C : Type 0} (at : A → Option B) (h : B → Option C) (xs : List A) (ys : List B) → map at xs ≡ map Some ys →
    filter_map (λ x. option_and_then h (at x)) xs ≡ filter_map h ys
told at h [] [] same = refl
told at h [] (y ∷ ys) same = absurd (cc same)
told at h (x ∷ xs) [] same = absurd (cc same)
told at h (x ∷ xs) (y ∷ ys) same =
    let first : at x ≡ Some y = cc in
    let rest : map at xs ≡ map Some ys = cc in
    ap₂ (λ o more. cons_option (option_and_then h o) more) first (told at h xs ys rest)

by_turns : (t : Tables) (before left : List ℕ) (turns : List places.Turn) →
    map (turn_at t) turns ≡ map Some (turns_of t) →
    filter_map (still_asking_at t before left) turns ≡ filter_map (still_asking before left) (turns_of t)
by_turns t before left turns same = told (turn_at t) (still_asking before left) turns (turns_of t) same

-- the end of the loop over turns
pub all_turns : (t : Tables) (before left : List ℕ) (turns : List places.Turn) (pendings : List (ℕ × ℕ)) (i : ℕ) →
    length turns ≤ i →
    pendings ++ filter_map (still_asking_at t before left) (drop i turns) ≡
    filter_map (still_asking_at t before left) turns →
    map (turn_at t) turns ≡ map Some (turns_of t) → pendings ≡ filter_map (still_asking before left) (turns_of t)
all_turns t before left turns pendings i end so_far same =
    let none : drop i turns ≡ [] = drop_all i turns end in
    let all : pendings ++ [] ≡ filter_map (still_asking_at t before left) turns = rw none at so_far in
    sym (append-nil pendings) ∙ all ∙ by_turns t before left turns same

-- the first of two lists
pub first_pair : (xs ys : List ℕ) → 0 < length xs → 0 < length ys →
    slice_get (zip xs ys) 0 ≡ Some (slice_index xs 0, slice_index ys 0)
first_pair [] ys some other = absurd (omega (arith, some))
first_pair (x ∷ xs) [] some other = absurd (omega (arith, other))
first_pair (x ∷ xs) (y ∷ ys) some other = refl

pub no_pair : (xs ys : List ℕ) → (length xs ≡ 0) ⊎ (length ys ≡ 0) → slice_get (zip xs ys) 0 ≡ None
no_pair [] ys none = refl
no_pair (x ∷ xs) [] none = refl
no_pair (x ∷ xs) (y ∷ ys) (inl none) = absurd (omega (arith, none))
no_pair (x ∷ xs) (y ∷ ys) (inr none) = absurd (omega (arith, none))

-- what stands at a place of lists that are kept as vectors
pub list_found : {V : Type 0} (items : V → List ℕ) (vs : List V) (lists : List (List ℕ)) (i : ℕ) (v : V) →
    map items vs ≡ lists → i < length vs → v ≡ get_or vs i v → slice_get lists i ≡ Some (items v)
list_found items vs lists i v same inside is =
    let found : slice_get vs i ≡ Some v = slice_get-get_or vs i v inside ∙ ap (λ x. Some x) (sym is) in
    ap (λ ls. slice_get ls i) (sym same) ∙ slice_get-map items vs i ∙ ap (λ o. option_map items o) found

pub no_list : {V : Type 0} (items : V → List ℕ) (vs : List V) (lists : List (List ℕ)) (i : ℕ) →
    map items vs ≡ lists → length vs ≤ i → slice_get lists i ≡ None
no_list items vs lists i same past =
    ap (λ ls. slice_get ls i) (sym same) ∙ slice_get-map items vs i ∙
    ap (λ o. option_map items o) (slice_get_past vs i past)

pub flow_found : (flows known : List FlowTable) (i : ℕ) (flow : FlowTable) → flows ≡ known → i < length flows →
    flow ≡ get_or flows i flow → slice_get known i ≡ Some flow
flow_found flows known i flow same inside is =
    ap (λ fs. slice_get fs i) (sym same) ∙ slice_get-get_or flows i flow inside ∙ ap (λ x. Some x) (sym is)

-- whether a turn still asks, by its number
abbrev pub asks : List ℕ → List ℕ → places.Turn → Bool
asks before left turn =
    nat_lt 0 (slice_index left turn.cluster) && (slice_index left turn.cluster == slice_index before turn.cluster)

pub asking : (t : Tables) (before left : List ℕ) (turn : places.Turn) → asks before left turn ≡ true →
    still_asking_at t before left turn ≡ option_and_then first_sid (turn_at t turn)
asking t before left turn bytes = by_flow (slice_get t.flows turn.flow)
  where
    by_sids : (flow : FlowTable) (sids : Option (List ℕ)) →
        option_and_then (still_asking before left) (option_map (λ sids. record {
          number = turn.cluster;
          place = turn.flow;
          cluster = record { flow = flow; list = turn.list; sids = sids };
        }) sids) ≡ option_and_then first_sid (option_map (λ sids. record {
          number = turn.cluster;
          place = turn.flow;
          cluster = record { flow = flow; list = turn.list; sids = sids };
        }) sids)
    by_sids flow None = refl
    by_sids flow (Some sids) = rw bytes refl

    by_flow : (flow : Option FlowTable) →
        option_and_then (still_asking before left) (option_and_then (in_flow turn) flow) ≡
        option_and_then first_sid (option_and_then (in_flow turn) flow)
    by_flow None = refl
    by_flow (Some flow) = by_sids flow (slice_get flow.clusters turn.list)

-- SIDs on a channel
abbrev sids_at : ℕ → List (ℕ × ℕ) → List ℕ
sids_at id pendings = map (λ pending. pending.1) (filter (λ pending. pending.0 == id) pendings)

sids_append : (id : ℕ) (first second : List (ℕ × ℕ)) → sids_at id (first ++ second) ≡ sids_at id first ++ sids_at id second
sids_append id first second =
    ap (map (λ (pending : ℕ × ℕ). pending.1)) (filter-append (λ pending. pending.0 == id) first second) ∙
    map-append (λ (pending : ℕ × ℕ). pending.1) (filter (λ pending. pending.0 == id) first)
    (filter (λ pending. pending.0 == id) second)

-- of the first of some and one more, the first
first_again : (n : ℕ) (xs ys : List ℕ) → take n (take n xs ++ ys) ≡ take n (xs ++ ys)
first_again zero xs ys = refl
first_again (suc n) [] ys = refl
first_again (suc n) (x ∷ xs) ys = ap (λ rest. x ∷ rest) (first_again n xs ys)

-- Pendings that are dealt out: one more,
pub dealt_one : (pendings : List (ℕ × ℕ)) (lists : List (List ℕ)) (p : ℕ × ℕ) → p.0 < length lists → AreDealt pendings lists →
    AreDealt (pendings ++ p ∷ []) (set lists p.0 (take 38 (get_or lists p.0 [] ++ p.1 ∷ [])))
unfolding AreDealt pendings_on
dealt_one pendings lists p inside dealt = λ id. elim (cases_eq id p.0) [
  | inl same ↦
      subst (λ k. get_or (set lists p.0 new) k [] ≡ take 38 (sids_at k (pendings ++ p ∷ []))) (sym same) here
  | inr other ↦
      let elsewhere : (p.0 == id) ≡ false = ne_eqb p.0 id (λ is. other (sym is)) in
      get_or-set_other lists p.0 id new [] other ∙ dealt id ∙ ap (take 38) (sym (sids_append id pendings (p ∷ []) ∙
      rw elsewhere (append-nil (sids_at id pendings))))
]
  where
    new : List ℕ
    new = take 38 (get_or lists p.0 [] ++ p.1 ∷ [])

    more : sids_at p.0 (pendings ++ p ∷ []) ≡ sids_at p.0 pendings ++ p.1 ∷ []
    more =
        let on : (p.0 == p.0) ≡ true = eq-eqb p.0 p.0 refl in
        sids_append p.0 pendings (p ∷ []) ∙ rw on refl

    here : get_or (set lists p.0 new) p.0 [] ≡ take 38 (sids_at p.0 (pendings ++ p ∷ []))
    here =
        get_or-set_same lists p.0 new [] inside ∙ ap (λ xs. take 38 (xs ++ p.1 ∷ [])) (dealt p.0) ∙
        first_again 38 (sids_at p.0 pendings) (p.1 ∷ []) ∙ ap (take 38) (sym more)

-- one more list,
with_none : (lists : List (List ℕ)) (id : ℕ) → get_or (lists ++ [] ∷ []) id [] ≡ get_or lists id []
with_none [] zero = refl
with_none [] (suc id) = refl
with_none (l ∷ lists) zero = refl
with_none (l ∷ lists) (suc id) = with_none lists id

pub dealt_room : (pendings : List (ℕ × ℕ)) (lists : List (List ℕ)) → AreDealt pendings lists →
    AreDealt pendings (lists ++ [] ∷ [])
unfolding AreDealt
dealt_room pendings lists dealt = λ id. with_none lists id ∙ dealt id

-- and none
pub none_dealt : (lists : List (List ℕ)) → ((id : ℕ) → id < length lists → get_or lists id [] ≡ []) → AreDealt [] lists
unfolding AreDealt pendings_on
none_dealt lists empty = λ id. elim (cases_lt id (length lists)) [
  | inl inside ↦ empty id inside
  | inr past ↦ get_or_past lists id [] past
]

pub one_cleared : (lists : List (List ℕ)) (at : ℕ) → at < length lists → ((id : ℕ) → id < at → get_or lists id [] ≡ []) →
    (id : ℕ) → id < at + 1 → get_or (set lists at []) id [] ≡ []
one_cleared lists at inside empty id early = elim (cases_eq id at) [
  | inl same ↦ subst (λ k. get_or (set lists at []) k [] ≡ []) (sym same) (get_or-set_same lists at [] [] inside)
  | inr other ↦
      let before : id < at = grind (arith, early, other) in
      get_or-set_other lists at id [] [] other ∙ empty id before
]

-- the SIDs of a flow of lawful tables have 14 bits
pub known_sids : (t : Tables) (place : ℕ) (flow : FlowTable) → AreTables t → slice_get t.flows place ≡ Some flow →
    AllByRecursion (λ sids. AllByRecursion (λ sid. sid < 2 ^ 14) sids) flow.clusters
known_sids t place flow lawful found =
    let is : IsFlow t flow = all_found (IsFlow t) t.flows place flow lawful.flows found in
    all_weaker (λ (sids : List ℕ). (length sids ≡ length flow.channels) × AllByRecursion (IsInRange 1 15871) sids)
    (λ sids. AllByRecursion (λ sid. sid < 2 ^ 14) sids)
    (λ sids h. all_weaker (IsInRange 1 15871) (λ sid. sid < 2 ^ 14) (λ sid b. omega (arith, b.1)) sids h.1)
    flow.clusters is.sids
