-- A table as a map from its ids keeps it.
use Rattle.std.proofs.Common.{◌≡◌, ℕ, List, [], ◌∷◌, ◌++◌, find, Bool, true, false, cond, ◌==◌, nat_eq, Option, Some, None, is_some, refl, sym, ap, ◌∙◌, inl, inr}
use Rattle.std.specs.Cmp.{nat_eq_equiv}
use Rattle.std.specs.List.{list_any}
use Rattle.std.specs.Map.{lookup, values_of}
use Rattle.std.proofs.lemmas.Bool.{cases_Bool}
use Rattle.std.proofs.lemmas.List.{map-append}
use Rattle.indexmap.specs.IndexMap.{IndexMap, get, insert_entry}
use Rattle.indexmap.proofs.CallerLemmas.{insert_entry-new}
use Rattle.us_flows.specs.Listed.{by_id}

pub none_from_is_some : {X : Type 0} (found : Option X) → is_some found ≡ false → found ≡ None
none_from_is_some None h = refl
none_from_is_some (Some x) h = let no : true ≡ false = h in cc

is_some-find : {X : Type 0} (passes : X → Bool) (xs : List X) → is_some (find passes xs) ≡ list_any passes xs
is_some-find passes [] = refl
is_some-find passes (x ∷ xs) = elim (cases_Bool (passes x)) [
  | inl t ↦ rw t refl
  | inr f ↦ rw f (is_some-find passes xs)
]

module _ {X : Type 0} (id : X → ℕ) where
  found_in : (key : ℕ) (items : List X) →
      lookup (nat_eq key) (by_id id items) ≡ find (λ item. id item == key) items
  found_in key [] = refl
  found_in key (x ∷ xs) =
      rw (nat_eq_equiv.symm key (id x)) (ap (λ rest. cond (id x == key) (Some x) rest) (found_in key xs))

  module _ (entries : List (ℕ × X)) (are : entries ≡ by_id id (values_of entries)) where
    pub found_by_id : (key : ℕ) → lookup (nat_eq key) entries ≡ find (λ item. id item == key) (values_of entries)
    found_by_id key = ap (lookup (nat_eq key)) are ∙ found_in key (values_of entries)

    pub has_id : (key : ℕ) →
        is_some (lookup (nat_eq key) entries) ≡ list_any (λ item. id item == key) (values_of entries)
    has_id key = ap is_some (found_by_id key) ∙ is_some-find (λ item. id item == key) (values_of entries)

    pub by_id-push : (x : X) → entries ++ (id x, x) ∷ [] ≡ by_id id (values_of (entries ++ (id x, x) ∷ []))
    by_id-push x =
        let last : List (ℕ × X) = (id x, x) ∷ [] in
        let values = map-append (λ entry. entry.1) entries last in
        let both = map-append (λ item. (id item, item)) (values_of entries) (x ∷ []) in
        sym (ap (by_id id) values ∙ both ∙ ap (λ before. before ++ last) (sym are))

-- entries with one item more, which still stand behind their ids
pub record IsPushed {X : Type 0} (id : X → ℕ) (old : List (ℕ × X)) (before : List X) (x : X) (entries : List (ℕ × X)) : Type 0 where
  pub last : entries ≡ old ++ (id x, x) ∷ []
  pub by_ids : entries ≡ by_id id (values_of entries)
  pub values : values_of entries ≡ before ++ x ∷ []

-- an item whose id is new goes last
pub pushed : {X S : Type 0} (id : X → ℕ) (map : IndexMap ℕ X S) → map.entries ≡ by_id id (values_of map.entries) →
    (before : List X) → values_of map.entries ≡ before → (x : X) → list_any (λ y. id y == id x) before ≡ false →
    (entries : List (ℕ × X)) → entries ≡ insert_entry nat_eq map.entries (id x) x →
    IsPushed id map.entries before x entries
pushed id map are before is x other entries inserted =
    let had = has_id id map.entries are (id x) ∙ ap (list_any (λ y. id y == id x)) is in
    let none : get nat_eq map (id x) ≡ None = none_from_is_some _ (had ∙ other) in
    let last = inserted ∙ insert_entry-new nat_eq map (id x) x none in
    record {
      last = last;
      by_ids = last ∙ by_id-push id map.entries are x ∙ ap (λ more. by_id id (values_of more)) (sym last);
      values = ap values_of last ∙ map-append (λ entry. entry.1) map.entries ((id x, x) ∷ []) ∙
          ap (λ items. items ++ x ∷ []) is;
    }
