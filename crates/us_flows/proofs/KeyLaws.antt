-- Items whose keys are apart, for the crates above: at most one has a key, it is found by its key, and stands at one place.
use Rattle.std.proofs.Common.{◌≡◌, ◌≢◌, ℕ, zero, suc, ◌+◌, ◌≤◌, ◌==◌, List, [], ◌∷◌, map, find, count_by, Bool, cond, Some, None, slice_get, refl, sym, ap, ◌∙◌, inl, inr, eq-eqb, ne_eqb, arith}
use Rattle.std.specs.List.{AllByRecursion}
use Rattle.std.proofs.lemmas.Bool.{cases_eq}
use Rattle.std.proofs.lemmas.List.Sums.{sum_by-cons}
use Rattle.us_flows.specs.declared.channels.Channel.{Channel}
use Rattle.us_flows.specs.declared.stations.Station.{Station}
use Rattle.us_flows.specs.Tables.{Tables, FlowTable, channel_with}
use Rattle.us_flows.specs.Lawful.{AreApart, AreTables}

abbrev one_if : Bool → ℕ
one_if b = cond b 1 0

module _ {X : Type 0} (key : X → ℕ) where
  count-key : (id : ℕ) (x : X) (xs : List X) →
      count_by (λ y. key y == id) (x ∷ xs) ≡ one_if (key x == id) + count_by (λ y. key y == id) xs
  count-key id x xs = sum_by-cons (λ y. cond (key y == id) 1 0) x xs

  none_with : (id : ℕ) (xs : List X) → AllByRecursion (λ k. id ≢ k) (map key xs) →
      count_by (λ x. key x == id) xs ≤ 0
  none_with id [] apart = omega arith
  none_with id (x ∷ xs) apart =
      let here : one_if (key x == id) ≡ 0 = ap one_if (ne_eqb (key x) id (λ same. apart.0 (sym same))) in
      omega (arith, count-key id x xs, here, none_with id xs apart.1)

  pub one_with : (xs : List X) (id : ℕ) → AreApart (map key xs) → count_by (λ x. key x == id) xs ≤ 1
  one_with [] id apart = omega arith
  one_with (x ∷ xs) id apart = elim (cases_eq (key x) id) [
    | inl same ↦
        let here : one_if (key x == id) ≡ 1 = ap one_if (eq-eqb (key x) id same) in
        let others = none_with id xs (rw same at apart.0) in
        omega (arith, count-key id x xs, here, others)
    | inr other ↦
        let here : one_if (key x == id) ≡ 0 = ap one_if (ne_eqb (key x) id other) in
        omega (arith, count-key id x xs, here, one_with xs id apart.1)
  ]

  no_such_key : (id : ℕ) (xs : List X) (i : ℕ) (x : X) → AllByRecursion (λ k. id ≢ k) (map key xs) →
      slice_get xs i ≡ Some x → id ≢ key x
  no_such_key id [] i x apart at same = let no : None ≡ Some x = at in cc
  no_such_key id (y ∷ ys) zero x apart at same =
      let is : Some y ≡ Some x = at in
      let equal : y ≡ x = cc in
      apart.0 (same ∙ sym (ap key equal))
  no_such_key id (y ∷ ys) (suc i) x apart at same = no_such_key id ys i x apart.1 at same

  pub place_of_key : (xs : List X) (i j : ℕ) (x y : X) → AreApart (map key xs) → slice_get xs i ≡ Some x →
      slice_get xs j ≡ Some y → key x ≡ key y → i ≡ j
  place_of_key [] i j x y apart one other same = let no : None ≡ Some x = one in cc
  place_of_key (z ∷ zs) zero zero x y apart one other same = refl
  place_of_key (z ∷ zs) zero (suc j) x y apart one other same =
      let is : Some z ≡ Some x = one in
      let equal : z ≡ x = cc in
      absurd (no_such_key (key z) zs j y apart.0 other (ap key equal ∙ same))
  place_of_key (z ∷ zs) (suc i) zero x y apart one other same =
      let is : Some z ≡ Some y = other in
      let equal : z ≡ y = cc in
      absurd (no_such_key (key z) zs i x apart.0 one (ap key equal ∙ sym same))
  place_of_key (z ∷ zs) (suc i) (suc j) x y apart one other same =
      ap suc (place_of_key zs i j x y apart.1 one other same)

  -- one key is of one item
  pub item_of_key : (xs : List X) (i j : ℕ) (x y : X) → AreApart (map key xs) → slice_get xs i ≡ Some x →
      slice_get xs j ≡ Some y → key x ≡ key y → x ≡ y
  item_of_key xs i j x y apart one other same =
      let place = place_of_key xs i j x y apart one other same in
      let found : Some x ≡ Some y = sym one ∙ ap (slice_get xs) place ∙ other in
      cc

  pub found_by_key : (xs : List X) (i : ℕ) (x : X) → AreApart (map key xs) → slice_get xs i ≡ Some x →
      find (λ y. key y == key x) xs ≡ Some x
  found_by_key [] i x apart at = at
  found_by_key (y ∷ ys) zero x apart at =
      let is : Some y ≡ Some x = at in
      let equal : y ≡ x = cc in
      rw (eq-eqb (key y) (key x) (ap key equal)) is
  found_by_key (y ∷ ys) (suc i) x apart at =
      rw (ne_eqb (key y) (key x) (no_such_key (key y) ys i x apart.0 at)) (found_by_key ys i x apart.1 at)

-- of the tables of a configuration

pub one_channel : (t : Tables) (id : ℕ) → AreTables t → count_by (λ c. c.id == id) t.channels ≤ 1
one_channel t id are = one_with (λ c. c.id) t.channels id are.channels_apart

pub channel_found : (t : Tables) (i : ℕ) (c : Channel) → AreTables t → slice_get t.channels i ≡ Some c →
    channel_with t.channels c.id ≡ Some c
channel_found t i c are at = found_by_key (λ c. c.id) t.channels i c are.channels_apart at

pub one_flow : (t : Tables) (id : ℕ) → AreTables t → count_by (λ f. f.id == id) t.flows ≤ 1
one_flow t id are = one_with (λ f. f.id) t.flows id are.flows_apart

pub flow_found : (t : Tables) (i : ℕ) (f : FlowTable) → AreTables t → slice_get t.flows i ≡ Some f →
    find (λ g. g.id == f.id) t.flows ≡ Some f
flow_found t i f are at = found_by_key (λ f. f.id) t.flows i f are.flows_apart at

pub one_station : (t : Tables) (id : ℕ) → AreTables t → count_by (λ s. s.id == id) t.stations ≤ 1
one_station t id are = one_with (λ s. s.id) t.stations id are.stations_apart

pub station_found : (t : Tables) (i : ℕ) (s : Station) → AreTables t → slice_get t.stations i ≡ Some s →
    find (λ r. r.id == s.id) t.stations ≡ Some s
station_found t i s are at = found_by_key (λ s. s.id) t.stations i s are.stations_apart at
