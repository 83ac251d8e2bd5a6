-- What a table without a fault in its shape has at a key.
use Rattle.std.proofs.Common.{◌≡◌, ℕ, pos, negsuc, Bool, true, false, not, ◌||◌, ◌&&◌, List, [], ◌∷◌, length, ◌≤◌, Option, Some, None, is_none, Ordering, Less, Equal, Greater, nat_cmp, is_eq, refl, ap, sym, ◌∙◌, arith, inl, inr, nat_le}
use Rattle.std.specs.Str.{bytes_eq}
use Rattle.std.specs.Cmp.Lexicographic.{slice_cmp}
use Rattle.std.specs.Ordering.{match_ordering}
use Rattle.std.proofs.lemmas.Bool.{cases_Bool, or_parts, and_parts, leb-true, false≢true}
use Rattle.std.proofs.lemmas.Map.Text.{is_eq-slice_cmp}
use Rattle.std.proofs.lemmas.Slice.Eq.{bytes_eq-Decides}
use Rattle.std.specs.Int.{IsInRange}
use Rattle.toml.specs.Data.{Data, string, integer, float, boolean, datetime, array, table, Items, no_items, item, Members, no_members, member, get_member}
use Rattle.us_flows.specs.Keys.{Key}
use Rattle.us_flows.specs.Documents.{number_of, number_at, numbers_of, lists_of, read_or}
use Rattle.us_flows.specs.Shapes.{is_number, count, allows, lacks, strays, is_optional}

-- Each item of a list is read as one number, or one list.

pub length-numbers_of : (items : Items) → length (numbers_of items) ≡ count items
length-numbers_of no_items = refl
length-numbers_of (item d ds) = omega (arith, length-numbers_of ds)

pub length-lists_of : (items : Items) → length (lists_of items) ≡ count items
length-lists_of no_items = refl
length-lists_of (item d ds) = omega (arith, length-lists_of ds)

-- a member that is found stands under an equal key
found_under : (keys : List Key) (k name : List ℕ) (d e : Data) (t : Members) (o : Ordering) → o ≡
    slice_cmp nat_cmp k name →
    (get_member k t ≡ Some d → allows keys k d ≡ true) → allows keys name e ≡ true →
    match_ordering o (get_member k t) (Some e) (get_member k t) ≡ Some d → allows keys k d ≡ true
found_under keys k name d e t Less same later own h = later h
found_under keys k name d e t Greater same later own h = later h
found_under keys k name d e t Equal same later own h =
    let equal : e ≡ d = let some : Some e ≡ Some d = h in cc in
    let bytes : bytes_eq k name ≡ true = sym (is_eq-slice_cmp k name) ∙ ap is_eq (sym same) in
    let keys_equal : k ≡ name = (bytes_eq-Decides k name).0 bytes in
    rw (keys_equal, ← equal) own

not-false : (b : Bool) → not b ≡ false → b ≡ true
not-false true h = refl
not-false false h = sym h

pub found_allowed : (keys : List Key) (k : List ℕ) (d : Data) (t : Members) →
    strays keys t ≡ false → get_member k t ≡ Some d → allows keys k d ≡ true
found_allowed keys k d no_members h found = let no : None ≡ Some d = found in cc
found_allowed keys k d (member name e t) h found =
    let parts = or_parts (not (allows keys name e)) (strays keys t) h in
    found_under keys k name d e t (slice_cmp nat_cmp k name) refl (found_allowed keys k d t parts.1) (not-false
    (allows keys name e) parts.0) found

-- a key is listed as one that a table has to have
abbrev pub demands : List Key → List ℕ → Bool
demands [] k = false
demands (key ∷ keys) k = (bytes_eq key.0 k && not (is_optional key.1)) || demands keys k

some_of : {A : Type 0} (o : Option A) → is_none o ≡ false → (a : A) × (o ≡ Some a)
some_of None h = absurd (false≢true (sym h))
some_of (Some a) h = (a, refl)

pub not_lacking : (keys : List Key) (k : List ℕ) (ms : Members) → lacks keys ms ≡ false → demands keys k ≡ true →
    (d : Data) × (get_member k ms ≡ Some d)
not_lacking [] k ms h listed = absurd (false≢true listed)
not_lacking (key ∷ keys) k ms h listed =
    let parts = or_parts (is_none (get_member key.0 ms) && not (is_optional key.1)) (lacks keys ms) h in
    elim (cases_Bool (bytes_eq key.0 k && not (is_optional key.1))) [
      | inr f ↦ not_lacking keys k ms parts.1 (rw f at listed)
      | inl t ↦
          let here = and_parts (bytes_eq key.0 k) (not (is_optional key.1)) t in
          let same : key.0 ≡ k = (bytes_eq-Decides key.0 k).0 here.0 in
          some_of (get_member k ms) (elim (cases_Bool (is_none (get_member k ms))) [
            | inr some ↦ some
            | inl none ↦ absurd (false≢true (sym parts.0 ∙ rw (same, none, here.1) refl))
          ])
    ]

-- so the value of a key that has to be there keeps its rule
pub value_kept : (keys : List Key) (k : List ℕ) (t : Members) → lacks keys t ≡ false → strays keys t ≡ false →
    demands keys k ≡ true → (d : Data) × (get_member k t ≡ Some d) × (allows keys k d ≡ true)
value_kept keys k t whole ranged listed =
    let there = not_lacking keys k t whole listed in
    (there.0, there.1, found_allowed keys k there.0 t ranged there.1)

pub number_between : (least most : ℕ) (d : Data) → is_number least most d ≡ true → IsInRange least most (number_of d)
number_between least most (integer (pos n)) h =
    let parts = and_parts (nat_le least n) (nat_le n most) h in
    (leb-true least n parts.0, leb-true n most parts.1)
number_between least most (integer (negsuc n)) h = absurd (false≢true h)
number_between least most (string s) h = absurd (false≢true h)
number_between least most (float x) h = absurd (false≢true h)
number_between least most (boolean b) h = absurd (false≢true h)
number_between least most (datetime x) h = absurd (false≢true h)
number_between least most (array ds) h = absurd (false≢true h)
number_between least most (table ms) h = absurd (false≢true h)

pub number_in_range : (keys : List Key) (t : Members) (k : List ℕ) (least most : ℕ) →
    lacks keys t ≡ false → strays keys t ≡ false → demands keys k ≡ true →
    ((d : Data) → allows keys k d ≡ is_number least most d) → IsInRange least most (number_at k t)
number_in_range keys t k least most whole ranged listed by_rule =
    let kept = value_kept keys k t whole ranged listed in
    rw kept.1 (number_between least most kept.0 (sym (by_rule kept.0) ∙ kept.2))

-- and a number whose key may be left out, which is then 0, is at most the greatest one
pub optional_in_range : (keys : List Key) (t : Members) (k : List ℕ) (most : ℕ) → strays keys t ≡ false →
    ((d : Data) → allows keys k d ≡ is_number 0 most d) → number_at k t ≤ most
optional_in_range keys t k most ranged by_rule = found (get_member k t) refl
  where
    found : (value : Option Data) → get_member k t ≡ value → read_or 0 number_of value ≤ most
    found None is = omega arith
    found (Some d) is = (number_between 0 most d (sym (by_rule d) ∙ found_allowed keys k d t ranged is)).1
