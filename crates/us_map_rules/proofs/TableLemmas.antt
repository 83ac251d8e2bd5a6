-- Channels of a table by their ids, and the numbers of MAPs.
use Rattle.std.proofs.Common.{◌≡◌, ◌≢◌, ℕ, zero, suc, ◌+◌, ◌*◌, ◌<◌, ◌≤◌, ◌==◌, List, [], ◌∷◌, length, map, get_or, Option, Some, None, slice_get, refl, sym, ap, ◌∙◌, subst, suc-mul, mul-le-mul_right, arith, inl, inr}
use Rattle.std.specs.List.{AllByRecursion, position_or_len}
use Rattle.std.specs.Prelude.{nat_lt}
use Rattle.std.proofs.lemmas.Bool.Decides.{nat_tests}
use Rattle.std.proofs.lemmas.Bool.{cases_Bool, cases_lt, cases_order, eq-eqb, eqb-true, le-ltb, lt-ltb, ne_eqb}
use Rattle.std.proofs.lemmas.List.Folds.{find_at}
use Rattle.std.proofs.lemmas.List.Quantifiers.{position-Some}
use Rattle.std.proofs.lemmas.List.Sums.{position_or_len_is}
use Rattle.std.proofs.lemmas.Option.{slice_get_past, slice_get-get_or}
use Rattle.us_flows.specs.declared.channels.Channel.{Channel}
use Rattle.us_flows.specs.Tables.{Tables, channel_with, has_channel}
use Rattle.us_flows.specs.Lawful.{AreApart, IsChannel}
use Rattle.us_reports.specs.Order.{place_of}

-- Ids.

apart_from : (id : ℕ) (channels : List Channel) → AllByRecursion (λ other. id ≢ other) (map (λ c. c.id) channels) →
    (k : ℕ) (d : Channel) → k < length channels → id ≢ (get_or channels k d).id
apart_from id [] apart k d inside = absurd (omega (arith, inside))
apart_from id (c ∷ more) apart zero d inside = apart.0
apart_from id (c ∷ more) apart (suc k) d inside = apart_from id more apart.1 k d (omega (arith, inside))

ids_apart : (channels : List Channel) → AreApart (map (λ c. c.id) channels) → (i j : ℕ) (d : Channel) → i < j →
    j < length channels → (get_or channels i d).id ≢ (get_or channels j d).id
ids_apart [] apart i j d less inside = absurd (omega (arith, inside))
ids_apart (c ∷ more) apart i zero d less inside = absurd (omega (arith, less))
ids_apart (c ∷ more) apart zero (suc j) d less inside = apart_from c.id more apart.0 j d (omega (arith, inside))
ids_apart (c ∷ more) apart (suc i) (suc j) d less inside =
    ids_apart more apart.1 i j d (omega (arith, less)) (omega (arith, inside))

-- a channel stands where its id is found
pub place_here : (channels : List Channel) → AreApart (map (λ c. c.id) channels) → (y : ℕ) (d : Channel) → y < length channels →
    place_of channels (get_or channels y d).id ≡ Some y
place_here channels apart y d inside =
    let at : position_or_len (λ (c : Channel). c.id == (get_or channels y d).id) channels ≡ y =
    position_or_len_is (λ (c : Channel). c.id == (get_or channels y d).id) channels y d (omega (arith, inside))
    (λ k less. ne_eqb (get_or channels k d).id (get_or channels y d).id (ids_apart channels apart k y d less inside))
    (λ there. eq-eqb (get_or channels y d).id (get_or channels y d).id refl) in
    rw (at, lt-ltb y (length channels) inside) refl

-- and where it is found it stands
pub place_found : (channels : List Channel) (id place : ℕ) (d : Channel) → place_of channels id ≡ Some place →
    (place < length channels) × ((get_or channels place d).id ≡ id)
place_found channels id place d found =
    let told = position-Some (λ (c : Channel). c.id == id) channels place d found in
    (told.0, eqb-true (get_or channels place d).id id told.1)

pub place_inside : (channels : List Channel) (id place : ℕ) → place_of channels id ≡ Some place → place < length channels
place_inside [] id place found = absurd (cc found)
place_inside (c ∷ more) id place found = (place_found (c ∷ more) id place c found).0

found_with : (channels : List Channel) (id place : ℕ) (d : Channel) → place_of channels id ≡ Some place →
    channel_with channels id ≡ Some (get_or channels place d)
found_with channels id place d found = elim (cases_lt (position_or_len (λ (c : Channel). c.id == id) channels) (length channels)) [
  | inl inside ↦
      let same : Some (position_or_len (λ (c : Channel). c.id == id) channels) ≡ Some place =
      rw (lt-ltb (position_or_len (λ (c : Channel). c.id == id) channels) (length channels) inside) at found in
      let at : position_or_len (λ (c : Channel). c.id == id) channels ≡ place = cc in
      find_at (λ c. c.id == id) channels ∙ ap (slice_get channels) at
      ∙ slice_get-get_or channels place d (subst (λ i. i < length channels) at inside)
  | inr over ↦
      let never : None ≡ Some place =
      rw (le-ltb (position_or_len (λ (c : Channel). c.id == id) channels) (length channels) over) at found in
      absurd (cc never)
]

-- a channel that is found by its id
pub record IsFound (channels : List Channel) (id place : ℕ) (c : Channel) : Type 0 where
  pub there : slice_get channels place ≡ Some c
  pub id_is : c.id ≡ id
  pub found : channel_with channels id ≡ Some c

pub found_channel : (channels : List Channel) (id place : ℕ) → place_of channels id ≡ Some place →
    (c : Channel) × IsFound channels id place c
found_channel [] id place at = absurd (cc at)
found_channel (c ∷ more) id place at = (
  get_or (c ∷ more) place c,
  record {
    there = slice_get-get_or (c ∷ more) place c (place_inside (c ∷ more) id place at);
    id_is = (place_found (c ∷ more) id place c at).1;
    found = found_with (c ∷ more) id place c at;
  },
)

pub lacks : (channels : List Channel) (id : ℕ) → place_of channels id ≡ None → channel_with channels id ≡ None
lacks channels id none = elim (cases_lt (position_or_len (λ (c : Channel). c.id == id) channels) (length channels)) [
  | inl inside ↦
      let never : Some (position_or_len (λ (c : Channel). c.id == id) channels) ≡ None =
      rw (lt-ltb (position_or_len (λ (c : Channel). c.id == id) channels) (length channels) inside) at none in
      absurd (cc never)
  | inr over ↦ find_at (λ c. c.id == id) channels
      ∙ slice_get_past channels (position_or_len (λ (c : Channel). c.id == id) channels) over
]

-- the table has a channel where its id is found
abbrev pub place_or_end : List Channel → ℕ → ℕ
place_or_end channels id = position_or_len (λ (c : Channel). c.id == id) channels

less_more : (a b : ℕ) → nat_lt (1 + a) (suc b) ≡ nat_lt a b
less_more a b = grind (arith, nat_tests)

pub has_by_place : (channels : List Channel) (id : ℕ) →
    has_channel channels id ≡ nat_lt (place_or_end channels id) (length channels)
has_by_place [] id = refl
has_by_place (c ∷ more) id = elim (cases_Bool (c.id == id)) [
  | inl is ↦ rw is (sym (lt-ltb 0 (suc (length more)) (omega arith)))
  | inr other ↦ rw other (has_by_place more id ∙ sym (less_more (place_or_end more id) (length more)))
]

-- no id is 0
some_id : (t : Tables) (channels : List Channel) → AllByRecursion (IsChannel t) channels → (k : ℕ) (d : Channel) →
    k < length channels → 1 ≤ (get_or channels k d).id
some_id t [] lawful k d inside = absurd (omega (arith, inside))
some_id t (c ∷ more) lawful zero d inside = lawful.0.id.0
some_id t (c ∷ more) lawful (suc k) d inside = some_id t more lawful.1 k d (omega (arith, inside))

pub none_is_zero : (t : Tables) (channels : List Channel) → AllByRecursion (IsChannel t) channels → place_of channels 0 ≡ None
none_is_zero t [] lawful = refl
none_is_zero t (c ∷ more) lawful = by (place_of (c ∷ more) 0) refl
  where
    by : (o : Option ℕ) → place_of (c ∷ more) 0 ≡ o → place_of (c ∷ more) 0 ≡ None
    by None is = is
    by (Some place) is =
        let found = place_found (c ∷ more) 0 place c is in
        absurd (omega (arith, some_id t (c ∷ more) lawful place c found.0, found.1))

-- Numbers of MAPs.

-- a MAP of an earlier round has a lesser number
pub below_number : (n a x b : ℕ) → x < n → a < b → a * n + x < b * n
below_number n a x b inside less =
    let more : suc a * n ≤ b * n = mul-le-mul_right n (omega (arith, less)) in
    omega (arith, suc-mul a n, more, inside)

-- each is of one round and one channel
pub number_parts : (n a x b y : ℕ) → x < n → y < n → a * n + x ≡ b * n + y → (a ≡ b) × (x ≡ y)
number_parts n a x b y in_x in_y same = elim (cases_order a b) [
  | inl is ↦ (is, omega (arith, same, ap (λ r. r * n) is))
  | inr other ↦ elim other [
    | inl less ↦ absurd (omega (arith, same, below_number n a x b in_x less))
    | inr more ↦ absurd (omega (arith, same, below_number n b y a in_y more))
  ]
]
