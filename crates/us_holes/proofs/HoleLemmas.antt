-- Holes: where an assignment fits, and what it leaves of them.
use Rattle.std.proofs.Common.{◌≡◌, ℕ, zero, suc, ◌+◌, ◌-◌, ◌<◌, ◌≤◌, nat_le, max, List, [], ◌∷◌, ◌++◌, length, drop, get_or, set, true, false, Some, None, refl, ap, sym, ◌∙◌, inl, inr, arith}
use Rattle.std.specs.List.{insert, remove}
use Rattle.std.proofs.lemmas.Bool.{cases_Bool, cases_lt, false_from_ne_true, and_parts, and_from, leb-true, le-leb, lt-ltb, le-ltb}
use Rattle.std.proofs.lemmas.List.{append-nil, get_or-drop, length-drop, drop-drop, drop_more}
use Rattle.us_holes.specs.Boards.{Assignment}
use Rattle.us_holes.specs.Runs.{end_of, InOrder}
use Rattle.us_holes.specs.Lists.{put, Hole, hole_end, hole_from, hole_in, holes_of, AreApart, fits_in, fit, HasAt, narrowed_at}
use Rattle.us_holes.proofs.CellLemmas.{HasRoom, room_inside, hole_alone}
use Rattle.us_holes.proofs.PutLemmas.{put_first, put_later, put_alone}

-- A hole is narrowed: what is left of it stands in its place,
pub narrowed_left : (holes : List Hole) (place start slots : ℕ) (hole : Hole) → place < length holes →
    hole ≡ get_or holes place hole → hole.start < start → hole_end hole ≤ start + slots →
    set holes place (hole_from hole.start start) ≡ narrowed_at place start slots holes
unfolding narrowed_at
narrowed_left [] place start slots hole inside is some none = absurd (omega (arith, inside))
narrowed_left (one ∷ more) zero start slots hole inside is some none =
    rw (sym is, lt-ltb hole.start start some, le-ltb (start + slots) (hole_end hole) none) refl
narrowed_left (one ∷ more) (suc place) start slots hole inside is some none =
    ap (λ holes. one ∷ holes) (narrowed_left more place start slots hole (omega (arith, inside)) is some none)

pub narrowed_right : (holes : List Hole) (place start slots : ℕ) (hole : Hole) → place < length holes →
    hole ≡ get_or holes place hole → start ≤ hole.start → start + slots < hole_end hole →
    set holes place (hole_from (start + slots) (hole_end hole)) ≡ narrowed_at place start slots holes
unfolding narrowed_at
narrowed_right [] place start slots hole inside is none some = absurd (omega (arith, inside))
narrowed_right (one ∷ more) zero start slots hole inside is none some =
    rw (sym is, le-ltb hole.start start none, lt-ltb (start + slots) (hole_end hole) some) refl
narrowed_right (one ∷ more) (suc place) start slots hole inside is none some =
    ap (λ holes. one ∷ holes) (narrowed_right more place start slots hole (omega (arith, inside)) is none some)

-- two holes do,
pub narrowed_both : (holes : List Hole) (place start slots : ℕ) (hole : Hole) → place < length holes →
    hole ≡ get_or holes place hole → hole.start < start → start + slots < hole_end hole →
    insert (set holes place (hole_from hole.start start)) (suc place) (hole_from (start + slots) (hole_end hole)) ≡
    narrowed_at place start slots holes
unfolding narrowed_at
narrowed_both [] place start slots hole inside is left right = absurd (omega (arith, inside))
narrowed_both (one ∷ more) zero start slots hole inside is left right =
    rw (sym is, lt-ltb hole.start start left, lt-ltb (start + slots) (hole_end hole) right) refl
narrowed_both (one ∷ more) (suc place) start slots hole inside is left right =
    ap (λ holes. one ∷ holes) (narrowed_both more place start slots hole (omega (arith, inside)) is left right)

-- or none.
pub narrowed_whole : (holes : List Hole) (place start slots : ℕ) (hole : Hole) → place < length holes →
    hole ≡ get_or holes place hole → start ≤ hole.start → hole_end hole ≤ start + slots →
    remove holes place ≡ narrowed_at place start slots holes
unfolding narrowed_at
narrowed_whole [] place start slots hole inside is none nil = absurd (omega (arith, inside))
narrowed_whole (one ∷ more) zero start slots hole inside is none nil =
    rw (sym is, le-ltb hole.start start none, le-ltb (start + slots) (hole_end hole) nil) refl
narrowed_whole (one ∷ more) (suc place) start slots hole inside is none nil =
    ap (λ holes. one ∷ holes) (narrowed_whole more place start slots hole (omega (arith, inside)) is none nil)

-- Holes by start.
apart_before : (from later : ℕ) (holes : List Hole) → from ≤ later → AreApart later holes → AreApart from holes
unfolding AreApart
apart_before from later [] before h = tt
apart_before from later (hole ∷ more) before h = (omega (arith, before, h.0), h.1, h.2)

gap_apart : (from to : ℕ) (holes : List Hole) → from ≤ to → AreApart to holes → AreApart from (hole_in from to ++ holes)
unfolding AreApart
gap_apart from to holes order h = elim (cases_lt from to) [
  | inr none ↦ rw (le-ltb from to none) (apart_before from to holes order h)
  | inl some ↦
      let ends : from + (to - from) ≡ to = omega (arith, some) in
      rw (lt-ltb from to some) (omega arith, omega (arith, some), rw ends h)
]

pub holes_apart : (from : ℕ) (assigned : List Assignment) (to : ℕ) → InOrder from assigned to →
    AreApart from (holes_of from assigned to)
unfolding InOrder holes_of AreApart
holes_apart from [] to order = rw (sym (hole_alone from to)) (gap_apart from to [] order tt)
holes_apart from (one ∷ more) to order =
    gap_apart from one.start (holes_of (end_of one) more to) order.0
    (apart_before one.start (end_of one) (holes_of (end_of one) more to) (omega arith) (holes_apart (end_of one) more to order.2))

room_above : (from : ℕ) (holes : List Hole) (slots start : ℕ) → AreApart from holes → HasRoom holes slots start →
    from ≤ start
unfolding AreApart HasRoom
room_above from [] slots start apart h = absurd h
room_above from (hole ∷ more) slots start apart (inl here) = omega (arith, apart.0, here.0)
room_above from (hole ∷ more) slots start apart (inr later) =
    omega (arith, apart.0, room_above (hole_end hole) more slots start apart.2 later)

pub at_room : (holes : List Hole) (number from slots : ℕ) → HasAt holes number from slots → HasRoom holes slots from
unfolding HasRoom
at_room [] number from slots h = absurd (omega (arith, h.inside))
at_room (hole ∷ more) zero from slots h = inl (h.above hole, h.below hole)
at_room (hole ∷ more) (suc number) from slots h =
    inr (at_room more number from slots (record { inside = omega (arith, h.inside); above = h.above; below = h.below }))

at_later : (hole : Hole) (more : List Hole) (number from slots : ℕ) → HasAt (hole ∷ more) (suc number) from slots →
    HasAt more number from slots
at_later hole more number from slots h = record { inside = omega (arith, h.inside); above = h.above; below = h.below }

-- The first fit, from a place on.
pub record IsFit (holes : List Hole) (first from to slots place start : ℕ) : Type 0 where
  pub number : ℕ
  pub place_is : place ≡ first + number
  pub has : HasAt holes number start slots
  pub above : from ≤ start
  pub below : start ≤ to
  pub first_one : (at : ℕ) → from ≤ at → at < start → HasRoom holes slots at → ⊥

abbrev first_part : ℕ × ℕ → ℕ
first_part p = p.0

abbrev second_part : ℕ × ℕ → ℕ
second_part p = p.1

abbrev pair : ℕ → ℕ → ℕ × ℕ
pair one other = (one, other)

the_pair : (found other : ℕ × ℕ) → Some found ≡ Some other → found ≡ other
the_pair found other e = cc

some_none : (found : ℕ × ℕ) → Some found ≡ None → ⊥
some_none found e = cc

fits_here : (hole : Hole) (start to slots : ℕ) → fits_in hole start to slots ≡ true →
    (start ≤ to) × (start + slots ≤ hole_end hole)
fits_here hole start to slots h =
    let parts = and_parts (nat_le start to) (nat_le (start + slots) (hole_end hole)) h in
    (leb-true start to parts.0, leb-true (start + slots) (hole_end hole) parts.1)

-- a hole that ends too early has no room for any start of the window
pub ends_early : (hole : Hole) (from to slots : ℕ) → hole_end hole < from + slots →
    fits_in hole (max from hole.start) to slots ≡ false
ends_early hole from to slots early =
    false_from_ne_true (fits_in hole (max from hole.start) to slots)
    (λ h. let known = fits_here hole (max from hole.start) to slots h in omega (arith, known.1, early))

-- and if the last of several ends too early all of them do.
ends_before : (from : ℕ) (holes : List Hole) (number : ℕ) (hole : Hole) → AreApart from holes → number < length holes →
    hole ≡ get_or holes number hole → from ≤ hole_end hole
unfolding AreApart
ends_before from [] number hole apart inside is = absurd (omega (arith, inside))
ends_before from (one ∷ more) zero hole apart inside is =
    let end : hole_end hole ≡ hole_end one = ap (λ hole. hole_end hole) is in
    omega (arith, end, apart.0)
ends_before from (one ∷ more) (suc number) hole apart inside is =
    omega (arith, apart.0, ends_before (hole_end one) more number hole apart.2 (omega (arith, inside)) is)

passed_all : (at place number from to slots : ℕ) (holes : List Hole) (hole : Hole) → AreApart at holes →
    number < length holes → hole ≡ get_or holes number hole → hole_end hole < from + slots →
    fit (place + suc number) from to slots (drop (suc number) holes) ≡ fit place from to slots holes
unfolding fit AreApart
passed_all at place number from to slots [] hole apart inside is early = absurd (omega (arith, inside))
passed_all at place zero from to slots (one ∷ more) hole apart inside is early =
    let end : hole_end hole ≡ hole_end one = ap (λ hole. hole_end hole) is in
    rw (ends_early one from to slots (omega (arith, end, early))) refl
passed_all at place (suc number) from to slots (one ∷ more) hole apart inside is early =
    let behind = ends_before (hole_end one) more number hole apart.2 (omega (arith, inside)) is in
    let next : place + suc (suc number) ≡ place + 1 + suc number = omega arith in
    rw (ends_early one from to slots (omega (arith, behind, early)), next)
    (passed_all (hole_end one) (place + 1) number from to slots more hole apart.2 (omega (arith, inside)) is early)

apart_from : (from first : ℕ) (holes : List Hole) → AreApart from holes → AreApart from (drop first holes)
unfolding AreApart
apart_from from zero holes apart = apart
apart_from from (suc first) [] apart = apart
apart_from from (suc first) (one ∷ more) apart =
    apart_before from (hole_end one) (drop first more) (omega (arith, apart.0)) (apart_from (hole_end one) first more apart.2)

pub passed_from : (first number from to slots : ℕ) (holes : List Hole) (hole : Hole) → AreApart 0 holes →
    first + number < length holes → hole ≡ get_or holes (first + number) hole → hole_end hole < from + slots →
    fit (first + suc number) from to slots (drop (first + suc number) holes) ≡ fit first from to slots (drop first holes)
passed_from first number from to slots holes hole apart inside is early =
    rw (sym (drop-drop (suc number) first holes))
    (passed_all 0 first number from to slots (drop first holes) hole (apart_from 0 first holes apart)
    (omega (arith, inside, length-drop first holes)) (is ∙ sym (get_or-drop first holes number hole)) early)

-- A hole that begins behind the window has none, and nor has any behind it.
pub begins_late : (at place from to slots : ℕ) (holes : List Hole) → AreApart at holes → to < max from at →
    None ≡ fit place from to slots holes
unfolding fit AreApart
begins_late at place from to slots [] apart late = refl
begins_late at place from to slots (one ∷ more) apart late =
    let not : fits_in one (max from one.start) to slots ≡ false =
    false_from_ne_true (fits_in one (max from one.start) to slots)
    (λ h. let known = fits_here one (max from one.start) to slots h in omega (arith, known.0, late, apart.0)) in
    rw not (begins_late (hole_end one) (place + 1) from to slots more apart.2 (omega (arith, late, apart.0)))

later : (at : ℕ) (hole : Hole) (holes : List Hole) → AreApart at (hole ∷ holes) → AreApart hole.start (hole ∷ holes)
unfolding AreApart
later at hole holes apart = (omega arith, apart.1, apart.2)

pub late_from : (first from to slots : ℕ) (holes : List Hole) (hole : Hole) → AreApart 0 holes → first < length holes →
    hole ≡ get_or holes first hole → to < max from hole.start → None ≡ fit first from to slots (drop first holes)
late_from first from to slots holes hole apart inside is late =
    let front : drop first holes ≡ hole ∷ drop (first + 1) holes =
    drop_more holes first hole inside ∙ ap (λ one. one ∷ drop (first + 1) holes) (sym is) in
    let apart : AreApart 0 (hole ∷ drop (first + 1) holes) = rw front at (apart_from 0 first holes apart) in
    rw front (begins_late hole.start first from to slots (hole ∷ drop (first + 1) holes)
    (later 0 hole (drop (first + 1) holes) apart) late)

fits_not : (hole : Hole) (from to slots at : ℕ) → fits_in hole (max from hole.start) to slots ≡ false → from ≤ at →
    at ≤ to → hole.start ≤ at → at + slots ≤ hole_end hole → ⊥
fits_not hole from to slots at h above below starts ends =
    let start : ℕ = max from hole.start in
    let no : false ≡ true =
    sym h ∙ and_from (nat_le start to) (nat_le (start + slots) (hole_end hole)) (le-leb start to (omega (arith, above, below, starts)))
    (le-leb (start + slots) (hole_end hole) (omega (arith, above, starts, ends))) in
    cc

pub fit_is : (at first from to slots place start : ℕ) (holes : List Hole) → AreApart at holes →
    fit first from to slots holes ≡ Some (place, start) → IsFit holes first from to slots place start
unfolding fit AreApart HasRoom
fit_is at first from to slots place start [] apart e = absurd cc
fit_is at first from to slots place start (hole ∷ more) apart e =
    elim (cases_Bool (fits_in hole (max from hole.start) to slots)) [
      | inl t ↦
          let same : pair first (max from hole.start) ≡ pair place start =
          the_pair (pair first (max from hole.start)) (pair place start) (rw t at e) in
          let place_is : first ≡ place = ap first_part same in
          let start_is : max from hole.start ≡ start = ap second_part same in
          let known = fits_here hole (max from hole.start) to slots t in
          record {
            number = 0;
            place_is = omega (arith, place_is);
            has = record {
              inside = omega arith;
              above = λ none. omega (arith, start_is);
              below = λ none. omega (arith, start_is, known.1);
            };
            above = omega (arith, start_is);
            below = omega (arith, start_is, known.0);
            first_one = λ number over under h. elim h [
              | inl here ↦ omega (arith, here.0, over, under, start_is)
              | inr later ↦
                  omega (arith, room_above (hole_end hole) more slots number apart.2 later, under, start_is, known.1)
            ];
          }
      | inr f ↦
          let rest = fit_is (hole_end hole) (first + 1) from to slots place start more apart.2 (rw f at e) in
          record {
            number = suc rest.number;
            place_is = omega (arith, rest.place_is);
            has = record {
              inside = omega (arith, rest.has.inside);
              above = rest.has.above;
              below = rest.has.below;
            };
            above = rest.above;
            below = rest.below;
            first_one = λ number over under h. elim h [
              | inl here ↦ fits_not hole from to slots number f over (omega (arith, under, rest.below)) here.0 here.1
              | inr later ↦ rest.first_one number over under later
            ];
          }
    ]

-- There is none.
pub fit_none : (first from to slots : ℕ) (holes : List Hole) → fit first from to slots holes ≡ None → (at : ℕ) →
    from ≤ at → at ≤ to → HasRoom holes slots at → ⊥
unfolding fit HasRoom
fit_none first from to slots [] e at above below h = h
fit_none first from to slots (hole ∷ more) e at above below h =
    elim (cases_Bool (fits_in hole (max from hole.start) to slots)) [
      | inl t ↦ some_none (pair first (max from hole.start)) (rw t at e)
      | inr f ↦ elim h [
        | inl here ↦ fits_not hole from to slots at f above below here.0 here.1
        | inr later ↦ fit_none (first + 1) from to slots more (rw f at e) at above below later
      ]
    ]

-- One more assignment narrows the hole that has its minislots.
-- after the last assignment,
alone_narrowed : (from to number : ℕ) (one : Assignment) → from < to →
    HasAt (hole_from from to ∷ []) number one.start one.slots →
    hole_in from one.start ++ hole_in (end_of one) to ≡ narrowed_at number one.start one.slots (hole_from from to ∷ [])
unfolding narrowed_at
alone_narrowed from to zero one gap h =
    let ends : from + (to - from) ≡ to = omega (arith, gap) in
    rw (ends, append-nil (hole_in (end_of one) to)) refl
alone_narrowed from to (suc number) one gap h = absurd (omega (arith, h.inside))

-- or among them.
abbrev IsCut : ℕ → List Assignment → ℕ → Assignment → Type 0
IsCut from assigned to one = (number : ℕ) → HasAt (holes_of from assigned to) number one.start one.slots →
    holes_of from (put one assigned) to ≡ narrowed_at number one.start one.slots (holes_of from assigned to)

behind_other : (other one : Assignment) (more : List Assignment) (to number : ℕ) → InOrder (end_of other) more to →
    HasAt (holes_of (end_of other) more to) number one.start one.slots → other.start ≤ one.start
behind_other other one more to number order h =
    omega (
      arith,
      (room_inside (end_of other) more to one.slots one.start order
          (at_room (holes_of (end_of other) more to) number one.start one.slots h)).0,
    )

gap_narrowed : (from : ℕ) (other : Assignment) (more : List Assignment) (to number : ℕ) (one : Assignment) → from < other.start →
    InOrder (end_of other) more to → 0 < one.slots → IsCut (end_of other) more to one →
    HasAt (hole_from from other.start ∷ holes_of (end_of other) more to) number one.start one.slots →
    holes_of from (put one (other ∷ more)) to ≡
    narrowed_at number one.start one.slots (hole_from from other.start ∷ holes_of (end_of other) more to)
unfolding narrowed_at holes_of
gap_narrowed from other more to zero one gap order some later h =
    let ends : from + (other.start - from) ≡ other.start = omega (arith, gap) in
    let before : one.start < other.start = omega (arith, h.below (hole_from 0 0), ends, some) in
    rw (put_first one other more before, ends) refl
gap_narrowed from other more to (suc number) one gap order some later h =
    let rest = at_later (hole_from from other.start) (holes_of (end_of other) more to) number one.start one.slots h in
    rw (put_later one other more (behind_other other one more to number order rest), lt-ltb from other.start gap)
    (ap (λ holes. hole_from from other.start ∷ holes) (later number rest))

pub put_holes : (from : ℕ) (assigned : List Assignment) (to : ℕ) (one : Assignment) → InOrder from assigned to →
    0 < one.slots → IsCut from assigned to one
unfolding InOrder holes_of narrowed_at
put_holes from [] to one order some number h = elim (cases_lt from to) [
  | inr none ↦ absurd (omega (arith, (rw (le-ltb from to none) at h).inside))
  | inl gap ↦ rw (put_alone one, lt-ltb from to gap) (alone_narrowed from to number one gap (rw (lt-ltb from to gap) at h))
]
put_holes from (other ∷ more) to one order some number h = elim (cases_lt from other.start) [
  | inr none ↦
      let rest : HasAt (holes_of (end_of other) more to) number one.start one.slots =
      rw (le-ltb from other.start none) at h in
      rw (put_later one other more (behind_other other one more to number order.2 rest), le-ltb from other.start none)
      (put_holes (end_of other) more to one order.2 some number rest)
  | inl gap ↦
      rw (lt-ltb from other.start gap)
      (gap_narrowed from other more to number one gap order.2 some (put_holes (end_of other) more to one order.2 some)
      (rw (lt-ltb from other.start gap) at h))
]
