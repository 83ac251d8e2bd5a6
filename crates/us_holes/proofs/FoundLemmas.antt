-- Assignments in the order in which they were put, and how each is found where it begins.
use Rattle.std.proofs.Common.{◌≡◌, ◌≢◌, ℕ, zero, suc, ◌+◌, ◌<◌, ◌≤◌, List, [], ◌∷◌, ◌++◌, length, get_or, set, true, false, Option, Some, None, IsSome, refl, ap, sym, ◌∙◌, inl, inr, arith}
use Rattle.std.proofs.lemmas.Bool.{cases_lt, cases_eq, eq-eqb, ne_eqb}
use Rattle.us_holes.specs.Boards.{Owner, Assignment}
use Rattle.us_holes.specs.Runs.{end_of, InOrder}
use Rattle.us_holes.specs.Lists.{put, put_all, by_start, beginning, IsFound, AreFound, AreKept, one_from}
use Rattle.us_holes.proofs.CellLemmas.{ordered_end}
use Rattle.us_holes.proofs.PutLemmas.{put_first, put_later, put_alone, put_length}

-- One more is put last.
last_put : (assigned placed : List Assignment) (one : Assignment) →
    put_all assigned (placed ++ one ∷ []) ≡ put one (put_all assigned placed)
unfolding put_all
last_put assigned [] one = refl
last_put assigned (other ∷ placed) one = last_put (put other assigned) placed one

pub by_start_put : (placed : List Assignment) (one : Assignment) → by_start (placed ++ one ∷ []) ≡ put one (by_start placed)
by_start_put placed one = last_put [] placed one

all_length : (assigned placed : List Assignment) → length (put_all assigned placed) ≡ length assigned + length placed
unfolding put_all
all_length assigned [] = omega arith
all_length assigned (one ∷ placed) = omega (arith, all_length (put one assigned) placed, put_length one assigned)

pub by_start_length : (placed : List Assignment) → length (by_start placed) ≡ length placed
by_start_length placed = omega (arith, all_length [] placed)

-- Where it stands in order it lies behind the start, and before the end.
pub put_within : (from : ℕ) (assigned : List Assignment) (to : ℕ) (one : Assignment) → InOrder from (put one assigned) to →
    (from ≤ one.start) × (one.start < to)
unfolding InOrder
put_within from [] to one order =
    let order : InOrder from (one ∷ []) to = rw (put_alone one) at order in
    (order.0, omega (arith, order.1, order.2))
put_within from (other ∷ more) to one order = elim (cases_lt one.start other.start) [
  | inl before ↦
      let order : InOrder from (one ∷ other ∷ more) to = rw (put_first one other more before) at order in
      (order.0, omega (arith, order.1, ordered_end (end_of one) (other ∷ more) to order.2))
  | inr behind ↦
      let order : InOrder from (other ∷ put one more) to = rw (put_later one other more behind) at order in
      let rest = put_within (end_of other) more to one order.2 in
      (omega (arith, rest.0, order.0), rest.1)
]

-- What is found is found yet where one more is put that begins elsewhere.
get_else : (numbers : List ℕ) (at other value : ℕ) → at ≢ other → get_or (set numbers at value) other 0 ≡ get_or numbers other 0
get_else [] at other value apart = refl
get_else (number ∷ numbers) zero zero value apart = absurd (apart refl)
get_else (number ∷ numbers) zero (suc other) value apart = refl
get_else (number ∷ numbers) (suc at) zero value apart = refl
get_else (number ∷ numbers) (suc at) (suc other) value apart =
    get_else numbers at other value (λ same. apart (ap (λ n. suc n) same))

pub get_any : (numbers : List ℕ) (at one other : ℕ) → at < length numbers → get_or numbers at one ≡ get_or numbers at other
get_any [] at one other inside = absurd (omega (arith, inside))
get_any (number ∷ numbers) zero one other inside = refl
get_any (number ∷ numbers) (suc at) one other inside = get_any numbers at one other (omega (arith, inside))

get_here : (numbers : List ℕ) (at value : ℕ) → at < length numbers → get_or (set numbers at value) at 0 ≡ value
get_here [] at value inside = absurd (omega (arith, inside))
get_here (number ∷ numbers) zero value inside = refl
get_here (number ∷ numbers) (suc at) value inside = get_here numbers at value (omega (arith, inside))

get_front : (placed : List Assignment) (one none : Assignment) (at : ℕ) → at < length placed →
    get_or (placed ++ one ∷ []) at none ≡ get_or placed at none
get_front [] one none at inside = absurd (omega (arith, inside))
get_front (other ∷ placed) one none zero inside = refl
get_front (other ∷ placed) one none (suc at) inside = get_front placed one none at (omega (arith, inside))

get_last : (placed : List Assignment) (one none : Assignment) → get_or (placed ++ one ∷ []) (length placed) none ≡ one
get_last [] one none = refl
get_last (other ∷ placed) one none = get_last placed one none

more_length : (placed : List Assignment) (one : Assignment) → length (placed ++ one ∷ []) ≡ suc (length placed)
more_length [] one = refl
more_length (other ∷ placed) one = ap (λ n. suc n) (more_length placed one)

abbrev noted : List ℕ → Assignment → List Assignment → List ℕ
noted numbers one placed = set numbers one.start (length placed)

one_kept : (other one : Assignment) (placed : List Assignment) (numbers : List ℕ) → one.start ≢ other.start →
    IsFound other placed numbers → IsFound other (placed ++ one ∷ []) (noted numbers one placed)
one_kept other one placed numbers apart found =
    let number = get_else numbers one.start other.start (length placed) apart in
    record {
      inside = rw number (omega (arith, found.inside, more_length placed one));
      is = λ none. rw (number, get_front placed one none (get_or numbers other.start 0) found.inside) (found.is none);
    }

all_kept : (from : ℕ) (assigned : List Assignment) (to : ℕ) (one : Assignment) (placed : List Assignment) (numbers : List ℕ) →
    InOrder from assigned to → one.start < from → AreFound assigned placed numbers →
    AreFound assigned (placed ++ one ∷ []) (noted numbers one placed)
unfolding AreFound InOrder
all_kept from [] to one placed numbers order before found = tt
all_kept from (other ∷ more) to one placed numbers order before found = (
  one_kept other one placed numbers (λ same. omega (arith, same, before, order.0)) found.0,
  all_kept (end_of other) more to one placed numbers order.2 (omega (arith, before, order.0)) found.1,
)

-- and so is that one.
itself_found : (one : Assignment) (placed : List Assignment) (numbers : List ℕ) → one.start < length numbers →
    IsFound one (placed ++ one ∷ []) (noted numbers one placed)
itself_found one placed numbers inside =
    let number = get_here numbers one.start (length placed) inside in
    record {
      inside = rw number (omega (arith, more_length placed one));
      is = λ none. rw (number, get_last placed one none) refl;
    }

found_put : (from : ℕ) (assigned : List Assignment) (to : ℕ) (one : Assignment) (placed : List Assignment)
    (numbers : List ℕ) → InOrder from (put one assigned) to → one.start < length numbers → AreFound assigned placed numbers →
    AreFound (put one assigned) (placed ++ one ∷ []) (noted numbers one placed)
unfolding AreFound InOrder
found_put from [] to one placed numbers order inside found =
    rw (put_alone one) (itself_found one placed numbers inside, tt)
found_put from (other ∷ more) to one placed numbers order inside found = elim (cases_lt one.start other.start) [
  | inl before ↦
      let order : InOrder from (one ∷ other ∷ more) to = rw (put_first one other more before) at order in
      rw (put_first one other more before) (
        itself_found one placed numbers inside,
        all_kept (end_of one) (other ∷ more) to one placed numbers order.2 (omega (arith, order.1)) found,
      )
  | inr behind ↦
      let order : InOrder from (other ∷ put one more) to = rw (put_later one other more behind) at order in
      let rest = put_within (end_of other) more to one order.2 in
      rw (put_later one other more behind) (
        one_kept other one placed numbers (λ same. omega (arith, same, rest.0, order.1)) found.0,
        found_put (end_of other) more to one placed numbers order.2 inside found.1,
      )
]

set_length : (numbers : List ℕ) (at value : ℕ) → length (set numbers at value) ≡ length numbers
set_length [] at value = refl
set_length (number ∷ numbers) zero value = refl
set_length (number ∷ numbers) (suc at) value = ap (λ n. suc n) (set_length numbers at value)

pub kept_with : (placed : List Assignment) (numbers : List ℕ) (one : Assignment) → AreKept placed numbers →
    InOrder 0 (put one (by_start placed)) 4096 → AreKept (placed ++ one ∷ []) (set numbers one.start (length placed))
kept_with placed numbers one kept order =
    let inside = put_within 0 (by_start placed) 4096 one order in
    record {
      minislots = set_length numbers one.start (length placed) ∙ kept.minislots;
      order = rw (by_start_put placed one) order;
      found = rw (by_start_put placed one)
          (found_put 0 (by_start placed) 4096 one placed numbers order (omega (arith, inside.1, kept.minislots)) kept.found);
    }

pub none_kept : (numbers : List ℕ) → length numbers ≡ 4096 → AreKept [] numbers
unfolding put_all AreFound InOrder
none_kept numbers minislots = record { minislots = minislots; order = omega arith; found = tt }

-- What begins at a minislot is found there.
pub found_there : (start : ℕ) (assigned placed : List Assignment) (numbers : List ℕ) (one : Assignment) →
    AreFound assigned placed numbers → beginning start assigned ≡ Some one →
    (get_or numbers start 0 < length placed) × ((none : Assignment) → one ≡ get_or placed (get_or numbers start 0) none)
unfolding AreFound beginning
found_there start [] placed numbers one found is = absurd cc
found_there start (other ∷ more) placed numbers one found is = elim (cases_eq other.start start) [
  | inr apart ↦ found_there start more placed numbers one found.1 (rw (ne_eqb other.start start apart) at is)
  | inl same ↦
      let here : Some other ≡ Some one = rw (eq-eqb other.start start same) at is in
      let other_is : other ≡ one = cc in (
        rw same at found.0.inside,
        λ none. sym other_is ∙ found.0.is none ∙ ap (λ start. get_or placed (get_or numbers start 0) none) same,
      )
]

-- One behind all others stands last.
pub put_behind_all : (from : ℕ) (assigned : List Assignment) (to : ℕ) (one : Assignment) →
    InOrder from (assigned ++ one ∷ []) to → (from ≤ one.start) × (put one assigned ≡ assigned ++ one ∷ [])
unfolding InOrder
put_behind_all from [] to one order = (order.0, put_alone one)
put_behind_all from (other ∷ more) to one order =
    let rest = put_behind_all (end_of other) more to one order.2 in (
      omega (arith, rest.0, order.0),
      put_later one other more (omega (arith, rest.0)) ∙ ap (λ more. other ∷ more) rest.1,
    )

pub record IsBeginning (start : ℕ) (assigned placed : List Assignment) (numbers : List ℕ) : Type 0 where
  pub inside : get_or numbers start 0 < length placed
  pub is : (none : Assignment) → Some (get_or placed (get_or numbers start 0) none) ≡ beginning start assigned

begins_with : (start : ℕ) (placed : List Assignment) (numbers : List ℕ) (told : Option Assignment) →
    told ≡ beginning start (by_start placed) → AreKept placed numbers → IsSome told →
    IsBeginning start (by_start placed) placed numbers
begins_with start placed numbers None is kept some = let no : false ≡ true = some in absurd cc
begins_with start placed numbers (Some one) is kept some =
    let found = found_there start (by_start placed) placed numbers one kept.found (sym is) in
    record { inside = found.0; is = λ none. ap (λ one. Some one) (sym (found.1 none)) ∙ is }

pub begins_there : (start : ℕ) (assigned placed : List Assignment) (numbers : List ℕ) → by_start placed ≡ assigned →
    AreKept placed numbers → IsSome (beginning start assigned) → IsBeginning start assigned placed numbers
begins_there start assigned placed numbers same kept some =
    rw same at (begins_with start placed numbers (beginning start (by_start placed)) refl kept (rw same some))

-- one that has a minislot
pub one_some : (start slots : ℕ) (owner : Owner) → 0 < slots →
    one_from start slots owner ≡ record { start = start; slots = slots; owner = owner } ∷ []
one_some start slots owner some = rw (ne_eqb slots 0 (omega (arith, some))) refl
