-- A walk along a board by minislots: at each, a hole begins or an assignment does.
use Rattle.std.proofs.Common.{◌≡◌, ℕ, zero, suc, ◌+◌, ◌*◌, ◌<◌, ◌≤◌, List, [], ◌∷◌, length, ◌^◌, drop, get_or, Some, IsSome, refl, ap, sym, subst, ◌∙◌, inl, inr, arith}
use Rattle.std.proofs.lemmas.Bool.{cases_lt, lt-ltb, le-ltb, eq-eqb, ne_eqb}
use Rattle.us_holes.specs.Boards.{Assignment}
use Rattle.us_holes.specs.Runs.{Run, end_of, InOrder, run_of, runs_between}
use Rattle.us_holes.specs.Lists.{beginning, begun_from, by_start, runs_left, Hole, hole_end, hole_from, holes_of, AreApart, AreKept, IsWalk, first_start, run_of_hole}
use Rattle.us_holes.proofs.CellLemmas.{ordered_end}
use Rattle.us_holes.proofs.HoleLemmas.{holes_apart}

-- No more runs than two for each assignment, and one.
pub runs_few : (from : ℕ) (assigned : List Assignment) (to : ℕ) → length (runs_between from assigned to) ≤ 2 * length assigned + 1
unfolding runs_between
runs_few from [] to = elim (cases_lt from to) [
  | inl some ↦ rw (lt-ltb from to some) (omega arith)
  | inr none ↦ rw (le-ltb from to none) (omega arith)
]
runs_few from (one ∷ more) to = elim (cases_lt from one.start) [
  | inl some ↦ rw (lt-ltb from one.start some) (omega (arith, runs_few (end_of one) more to))
  | inr none ↦ rw (le-ltb from one.start none) (omega (arith, runs_few (end_of one) more to))
]

-- There is one for each assignment, and one for each hole.
pub runs_number : (from : ℕ) (assigned : List Assignment) (to : ℕ) →
    length (runs_between from assigned to) ≡ length assigned + length (holes_of from assigned to)
unfolding runs_between holes_of
runs_number from [] to = elim (cases_lt from to) [
  | inl some ↦ rw (lt-ltb from to some) refl
  | inr none ↦ rw (le-ltb from to none) refl
]
runs_number from (one ∷ more) to = elim (cases_lt from one.start) [
  | inl some ↦ rw (lt-ltb from one.start some) (omega (arith, runs_number (end_of one) more to))
  | inr none ↦ rw (le-ltb from one.start none) (omega (arith, runs_number (end_of one) more to))
]

-- Those that begin at a minislot or behind it: from the first minislot on they are all,
pub all_begun : (assigned : List Assignment) → begun_from 0 assigned ≡ assigned
unfolding begun_from
all_begun [] = refl
all_begun (one ∷ more) = rw (le-ltb one.start 0 (omega arith)) refl

-- and where all begin there or behind, too;
begun_all : (from : ℕ) (assigned : List Assignment) (to : ℕ) → InOrder from assigned to → begun_from from assigned ≡ assigned
unfolding begun_from InOrder
begun_all from [] to order = refl
begun_all from (one ∷ more) to order = rw (le-ltb one.start from order.0) refl

-- none more is passed by from the minislot where the first of them begins,
begun_at_first : (from : ℕ) (assigned : List Assignment) (one : Assignment) (more : List Assignment) →
    begun_from from assigned ≡ one ∷ more → from ≤ one.start → begun_from one.start assigned ≡ one ∷ more
unfolding begun_from
begun_at_first from [] one more is above = absurd (cc)
begun_at_first from (other ∷ others) one more is above = elim (cases_lt other.start from) [
  | inl before ↦
      rw (lt-ltb other.start one.start (omega (arith, before, above)))
      (begun_at_first from others one more (rw (lt-ltb other.start from before) at is) above)
  | inr behind ↦
      let is : other ∷ others ≡ one ∷ more = rw (le-ltb other.start from behind) at is in
      let same : other ≡ one = cc in
      let start : other.start ≡ one.start = ap (λ a. a.start) same in
      rw (le-ltb other.start one.start (omega (arith, start))) is
]

-- where there is none there is none further on,
begun_none : (from to : ℕ) (assigned : List Assignment) → from ≤ to → begun_from from assigned ≡ [] → begun_from to assigned ≡ []
unfolding begun_from
begun_none from to [] above is = refl
begun_none from to (other ∷ others) above is = elim (cases_lt other.start from) [
  | inl before ↦
      rw (lt-ltb other.start to (omega (arith, before, above)))
      (begun_none from to others above (rw (lt-ltb other.start from before) at is))
  | inr behind ↦
      let is : other ∷ others ≡ [] = rw (le-ltb other.start from behind) at is in
      absurd (cc)
]

-- and behind the first of them there are the others.
begun_behind : (from : ℕ) (assigned : List Assignment) (one : Assignment) (more : List Assignment) (to : ℕ) →
    begun_from from assigned ≡ one ∷ more → from ≤ one.start → 0 < one.slots → InOrder (end_of one) more to →
    begun_from (end_of one) assigned ≡ more
unfolding begun_from
begun_behind from [] one more to is above some order = absurd (cc)
begun_behind from (other ∷ others) one more to is above some order = elim (cases_lt other.start from) [
  | inl before ↦
      rw (lt-ltb other.start (end_of one) (omega (arith, before, above)))
      (begun_behind from others one more to (rw (lt-ltb other.start from before) at is) above some order)
  | inr behind ↦
      let is : other ∷ others ≡ one ∷ more = rw (le-ltb other.start from behind) at is in
      let same : other ≡ one = cc in
      let rest : others ≡ more = cc in
      let start : other.start ≡ one.start = ap (λ a. a.start) same in
      rw (lt-ltb other.start (end_of one) (omega (arith, start, some)), rest) (begun_all (end_of one) more to order)
]

-- The first of them is found where it begins.
begins_first : (from : ℕ) (assigned : List Assignment) (one : Assignment) (more : List Assignment) →
    begun_from from assigned ≡ one ∷ more → one.start ≡ from → beginning from assigned ≡ Some one
unfolding begun_from beginning
begins_first from [] one more is here = absurd (cc)
begins_first from (other ∷ others) one more is here = elim (cases_lt other.start from) [
  | inl before ↦
      rw (ne_eqb other.start from (λ same. omega (arith, same, before)))
      (begins_first from others one more (rw (lt-ltb other.start from before) at is) here)
  | inr behind ↦
      let is : other ∷ others ≡ one ∷ more = rw (le-ltb other.start from behind) at is in
      let same : other ≡ one = cc in
      let start : other.start ≡ from = ap (λ a. a.start) same ∙ here in
      rw (eq-eqb other.start from start) (ap (λ a. Some a) same)
]

-- A walk as it begins.
pub walk_begun : (placed : List Assignment) (numbers : List ℕ) (holes : List Hole) (len : ℕ) → AreKept placed numbers →
    len ≤ 4096 → InOrder 0 (by_start placed) len → holes ≡ holes_of 0 (by_start placed) len →
    IsWalk placed numbers holes len 0 0 (first_start (drop 0 holes) len)
walk_begun placed numbers holes len kept most order between =
    let all = all_begun (by_start placed) in
    record {
      kept = kept;
      most = most;
      order = rw all order;
      rest = rw all between;
      idle = refl;
    }

-- A step of the walk: a run is handed out, and it goes on where that ends.
pub record IsStep (placed : List Assignment) (numbers : List ℕ) (holes : List Hole) (len from end next idle_from : ℕ) (run : Run) : Type 0 where
  pub inside : run.start < 4096
  pub walk : IsWalk placed numbers holes len end next idle_from
  pub runs : runs_left placed from len ≡ run ∷ runs_left placed end len

-- Where no hole begins an assignment does.
record IsHeld (placed : List Assignment) (numbers : List ℕ) (holes : List Hole) (len from next idle_from : ℕ) : Type 0 where
  one : Assignment
  is : beginning from (by_start placed) ≡ Some one
  start : one.start ≡ from
  inside : end_of one ≤ len
  step : IsStep placed numbers holes len from (end_of one) next idle_from (run_of one)

walk_held : (placed : List Assignment) (numbers : List ℕ) (holes : List Hole) (len from next idle_from : ℕ) →
    from < idle_from → IsWalk placed numbers holes len from next idle_from →
    IsHeld placed numbers holes len from next idle_from
unfolding InOrder holes_of runs_between
walk_held placed numbers holes len from next idle_from before walk =
    step (begun_from from (by_start placed)) refl walk.order walk.rest
  where
    step : (left : List Assignment) → begun_from from (by_start placed) ≡ left → InOrder from left len →
        drop next holes ≡ holes_of from left len → IsHeld placed numbers holes len from next idle_from
    step [] is order rest = elim (cases_lt from len) [
      | inl gap ↦
          let rest : drop next holes ≡ hole_from from len ∷ [] = rw (lt-ltb from len gap) at rest in
          let first : idle_from ≡ from = walk.idle ∙ ap (λ holes. first_start holes len) rest in
          absurd (omega (arith, before, first))
      | inr none ↦
          let rest : drop next holes ≡ [] = rw (le-ltb from len none) at rest in
          let first : idle_from ≡ len = walk.idle ∙ ap (λ holes. first_start holes len) rest in
          absurd (omega (arith, before, first, none))
    ]
    step (one ∷ more) is order rest = elim (cases_lt from one.start) [
      | inl gap ↦
          let rest : drop next holes ≡ hole_from from one.start ∷ holes_of (end_of one) more len =
          rw (lt-ltb from one.start gap) at rest in
          let first : idle_from ≡ from = walk.idle ∙ ap (λ holes. first_start holes len) rest in
          absurd (omega (arith, before, first))
      | inr behind ↦
          let here : one.start ≡ from = omega (arith, order.0, behind) in
          let left = begun_behind from (by_start placed) one more len is order.0 order.1 order.2 in
          record {
            one = one;
            is = begins_first from (by_start placed) one more is here;
            start = here;
            inside = ordered_end (end_of one) more len order.2;
            step = record {
              inside = omega (arith, order.1, walk.most, ordered_end (end_of one) more len order.2);
              walk = record {
                kept = walk.kept;
                most = walk.most;
                order = rw left order.2;
                rest = rw left (rw (le-ltb from one.start behind) at rest);
                idle = walk.idle;
              };
              runs = rw (is, left, le-ltb from one.start behind) refl;
            };
          }
    ]

pub held_there : (placed : List Assignment) (numbers : List ℕ) (holes : List Hole) (len from next idle_from : ℕ) →
    from < idle_from → IsWalk placed numbers holes len from next idle_from →
    (from < 4096) × IsSome (beginning from (by_start placed))
held_there placed numbers holes len from next idle_from before walk =
    let held = walk_held placed numbers holes len from next idle_from before walk in
    (omega (arith, held.start, held.step.inside), rw held.is refl)

pub record IsHeldStep (placed : List Assignment) (numbers : List ℕ) (holes : List Hole) (len from next idle_from : ℕ) (one : Assignment) : Type 0 where
  pub small : from + one.slots < 2 ^ 32
  pub step : IsStep placed numbers holes len from (from + one.slots) next idle_from (run_of one)

pub held_step : (placed : List Assignment) (numbers : List ℕ) (holes : List Hole) (len from next idle_from : ℕ) (one : Assignment) →
    from < idle_from → Some one ≡ beginning from (by_start placed) → IsWalk placed numbers holes len from next idle_from →
    IsHeldStep placed numbers holes len from next idle_from one
held_step placed numbers holes len from next idle_from one before is walk =
    let held = walk_held placed numbers holes len from next idle_from before walk in
    let both : Some one ≡ Some held.one = is ∙ held.is in
    let same : held.one ≡ one = cc in
    let end : end_of held.one ≡ from + held.one.slots = omega (arith, held.start) in
    subst (λ one. IsHeldStep placed numbers holes len from next idle_from one) same (record {
      small = omega (arith, end, held.inside, walk.most);
      step = rw end at held.step;
    })

-- Where one does it is walked.
drop_front : (holes : List Hole) (number : ℕ) (hole : Hole) → number < length holes → hole ≡ get_or holes number hole →
    drop number holes ≡ hole ∷ drop (suc number) holes
drop_front [] number hole inside is = absurd (omega (arith, inside))
drop_front (one ∷ holes) zero hole inside is = rw is refl
drop_front (one ∷ holes) (suc number) hole inside is = drop_front holes number hole (omega (arith, inside)) is

starts : (from : ℕ) (hole : Hole) (holes : List Hole) → AreApart from (hole ∷ holes) → from ≤ hole.start
unfolding AreApart
starts from hole holes apart = apart.0

pub hole_step : (placed : List Assignment) (numbers : List ℕ) (holes : List Hole) (len from next idle_from : ℕ) (hole : Hole) →
    idle_from ≤ from → next < length holes → hole ≡ get_or holes next hole →
    IsWalk placed numbers holes len from next idle_from →
    IsStep placed numbers holes len from (hole_end hole) (next + 1) (first_start (drop (next + 1) holes) len) (run_of_hole hole)
unfolding InOrder holes_of runs_between
hole_step placed numbers holes len from next idle_from hole behind inside hole_is walk =
    step (begun_from from (by_start placed)) refl walk.order (sym front ∙ walk.rest)
  where
    front : drop next holes ≡ hole ∷ drop (next + 1) holes
    front = rw (add_one_is next) (drop_front holes next hole inside hole_is)
      where
        add_one_is : (n : ℕ) → n + 1 ≡ suc n
        add_one_is n = omega arith

    begins : idle_from ≡ hole.start
    begins = walk.idle ∙ ap (λ holes. first_start holes len) front

    step : (left : List Assignment) → begun_from from (by_start placed) ≡ left → InOrder from left len →
        hole ∷ drop (next + 1) holes ≡ holes_of from left len →
        IsStep placed numbers holes len from (hole_end hole) (next + 1) (first_start (drop (next + 1) holes) len) (run_of_hole hole)
    step [] is order rest = elim (cases_lt from len) [
      | inl gap ↦
          let rest : hole ∷ drop (next + 1) holes ≡ hole_from from len ∷ [] = rw (lt-ltb from len gap) at rest in
          let same : hole ≡ hole_from from len = cc in
          let none : drop (next + 1) holes ≡ [] = cc in
          let start : hole.start ≡ from = ap (λ hole. hole.start) same in
          let end : hole_end hole ≡ len = ap (λ hole. hole_end hole) same ∙ omega (arith, gap) in
          let left = begun_none from (hole_end hole) (by_start placed) (omega (arith, end, gap)) is in
          let last = le-ltb (hole_end hole) len (omega (arith, end)) in
          record {
            inside = omega (arith, start, gap, walk.most);
            walk = record {
              kept = walk.kept;
              most = walk.most;
              order = rw left (omega (arith, end));
              rest = rw left (none ∙ rw last refl);
              idle = refl;
            };
            runs = rw (is, left, last, lt-ltb from len gap) (ap (λ hole. run_of_hole hole ∷ []) (sym same));
          }
      | inr none ↦
          let rest : hole ∷ drop (next + 1) holes ≡ [] = rw (le-ltb from len none) at rest in
          absurd (cc)
    ]
    step (one ∷ more) is order rest = elim (cases_lt from one.start) [
      | inl gap ↦
          let rest : hole ∷ drop (next + 1) holes ≡ hole_from from one.start ∷ holes_of (end_of one) more len =
          rw (lt-ltb from one.start gap) at rest in
          let same : hole ≡ hole_from from one.start = cc in
          let others : drop (next + 1) holes ≡ holes_of (end_of one) more len = cc in
          let start : hole.start ≡ from = ap (λ hole. hole.start) same in
          let end : hole_end hole ≡ one.start = ap (λ hole. hole_end hole) same ∙ omega (arith, gap) in
          let left : begun_from (hole_end hole) (by_start placed) ≡ one ∷ more =
          rw end (begun_at_first from (by_start placed) one more is order.0) in
          let last = le-ltb (hole_end hole) one.start (omega (arith, end)) in
          record {
            inside = omega (arith, start, gap, order.1, walk.most, ordered_end (end_of one) more len order.2);
            walk = record {
              kept = walk.kept;
              most = walk.most;
              order = rw left (omega (arith, end), order.1, order.2);
              rest = rw left (others ∙ rw last refl);
              idle = refl;
            };
            runs = rw (is, left, last, lt-ltb from one.start gap)
                (ap (λ hole. run_of_hole hole ∷ run_of one ∷ runs_between (end_of one) more len) (sym same));
          }
      | inr none ↦
          let rest : hole ∷ drop (next + 1) holes ≡ holes_of (end_of one) more len = rw (le-ltb from one.start none) at rest in
          let apart : AreApart (end_of one) (hole ∷ drop (next + 1) holes) = rw (sym rest) at (holes_apart (end_of one) more len order.2) in
          absurd (omega (arith, starts (end_of one) hole (drop (next + 1) holes) apart, begins, behind, order.0, order.1))
    ]

-- Behind the last hole and the last assignment it is done.
drop_past : (holes : List Hole) (number : ℕ) → length holes ≤ number → drop number holes ≡ []
drop_past [] zero past = refl
drop_past [] (suc number) past = refl
drop_past (hole ∷ holes) zero past = absurd (omega (arith, past))
drop_past (hole ∷ holes) (suc number) past = drop_past holes number (omega (arith, past))

pub walk_done : (placed : List Assignment) (numbers : List ℕ) (holes : List Hole) (len from next idle_from : ℕ) →
    idle_from ≤ from → length holes ≤ next → IsWalk placed numbers holes len from next idle_from →
    runs_left placed from len ≡ []
unfolding InOrder runs_between
walk_done placed numbers holes len from next idle_from behind past walk =
    at_end (begun_from from (by_start placed)) walk.order
  where
    last : len ≤ from
    last = let first : idle_from ≡ len = walk.idle ∙ ap (λ holes. first_start holes len) (drop_past holes next past) in
        omega (arith, first, behind)

    at_end : (left : List Assignment) → InOrder from left len → runs_between from left len ≡ []
    at_end [] order = rw (le-ltb from len last) refl
    at_end (one ∷ more) order =
        absurd (omega (arith, last, order.0, order.1, ordered_end (end_of one) more len order.2))
