-- Assignments that fitted, one after another, stand by their starts: each inside, none over another.
use Rattle.std.proofs.Common.{◌≡◌, ℕ, zero, suc, ◌<◌, ◌≤◌, List, [], ◌∷◌, ◌++◌, length, get_or, IsPermutation, refl, ap, sym, ◌∙◌, subst, arith}
use Rattle.std.specs.List.{AllByRecursion}
use Rattle.std.proofs.lemmas.List.{append-nil}
use Rattle.std.proofs.lemmas.List.Sorted.{IsPermutation-refl, IsPermutation-sym, IsPermutation-trans, IsPermutation-middle, IsPermutation-insert, IsPermutation-append_right}
use Rattle.us_holes.specs.Boards.{Board, Assignment, empty_board, assign, assign_all, AllFit}
use Rattle.us_holes.specs.Runs.{runs_of, end_of, InOrder}
use Rattle.us_holes.specs.Laws.{AssignmentsStandInOrder}
use Rattle.us_holes.specs.Lists.{board_of, place_among, put}
use Rattle.us_holes.proofs.CellLemmas.{ordered_end, idle_has_room}
use Rattle.us_holes.proofs.PutLemmas.{put_order, put_assigned}
use Rattle.us_holes.proofs.RunLemmas.{runs_are}
use Rattle.us_holes.proofs.KeptLemmas.{empty_lists}
use Rattle.us_holes.proofs.LawLemmas.{fit}

-- these, assigned where others stood in order, stand in order with them
record StandWith (len : ℕ) (before assigned ordered : List Assignment) : Type 0 where
  same : IsPermutation (assigned ++ before) ordered
  order : InOrder 0 ordered len
  board : assign_all (board_of before len) assigned ≡ board_of ordered len

one_more : (before more ordered : List Assignment) (one : Assignment) → IsPermutation (more ++ put one before) ordered →
    IsPermutation (one ∷ (more ++ before)) ordered
one_more before more ordered one h =
    let front : IsPermutation (one ∷ (more ++ before)) (more ++ one ∷ before) =
    IsPermutation-sym (more ++ one ∷ before) (one ∷ (more ++ before)) (IsPermutation-middle more one before) in
    let placed : IsPermutation (more ++ one ∷ before) (more ++ put one before) =
    IsPermutation-append_right more (one ∷ before) (put one before)
    (IsPermutation-insert before (place_among one.start before) one) in
    IsPermutation-trans (one ∷ (more ++ before)) (more ++ one ∷ before) ordered front
    (IsPermutation-trans (more ++ one ∷ before) (more ++ put one before) ordered placed h)

all_stand_with : (len : ℕ) (before assigned : List Assignment) → InOrder 0 before len → AllFit (board_of before len) assigned →
    AllByRecursion (λ (one : Assignment). 0 < one.slots) assigned →
    (ordered : List Assignment) × StandWith len before assigned ordered
unfolding assign_all AllFit
all_stand_with len before [] order h some =
    (before, record { same = IsPermutation-refl before; order = order; board = refl })
all_stand_with len before (one ∷ more) order h some =
    let idle = (fit (board_of before len) one.slots one.start h.0).idle in
    let room = idle_has_room before len one.slots one.start order some.0 idle in
    let is : board_of (put one before) len ≡ assign (board_of before len) one.start one.slots one.owner =
    put_assigned before len one order some.0 room in
    let rest = all_stand_with len (put one before) more (put_order 0 before len one order some.0 room)
    (subst (λ board. AllFit board more) (sym is) h.1) some.1 in (
      rest.0,
      record {
        same = one_more before more rest.0 one rest.1.same;
        order = rest.1.order;
        board = ap (λ board. assign_all board more) (sym is) ∙ rest.1.board;
      },
    )

none_stand : (len : ℕ) → InOrder 0 [] len
unfolding InOrder
none_stand len = omega arith

pub assignments_stand_in_order : AssignmentsStandInOrder
assignments_stand_in_order len assigned h some =
    let all = all_stand_with len [] assigned (none_stand len)
    (subst (λ board. AllFit board assigned) (sym (empty_lists len)) h) some in
    let board : assign_all (empty_board len) assigned ≡ board_of all.0 len =
    ap (λ board. assign_all board assigned) (sym (empty_lists len)) ∙ all.1.board in (
      all.0,
      record {
        same = subst (λ xs. IsPermutation xs all.0) (append-nil assigned) all.1.same;
        order = all.1.order;
        runs = ap (λ (board : Board). runs_of board.cells) board ∙ sym (runs_are 0 all.0 len all.1.order);
      },
    )

-- What an order says place by place: each lies inside,
abbrev pub LiesWithin : ℕ → ℕ → Assignment → Type 0
LiesWithin from to one = (from ≤ one.start) × (0 < one.slots) × (end_of one ≤ to)

pub ordered_inside : (from : ℕ) (ordered : List Assignment) (to at : ℕ) (d : Assignment) → InOrder from ordered to →
    at < length ordered → LiesWithin from to (get_or ordered at d)
unfolding InOrder
ordered_inside from [] to at d order inside = absurd (omega (arith, inside))
ordered_inside from (one ∷ more) to zero d order inside = (order.0, order.1, ordered_end (end_of one) more to order.2)
ordered_inside from (one ∷ more) to (suc at) d order inside =
    let rest = ordered_inside (end_of one) more to at d order.2 (omega (arith, inside)) in
    (omega (arith, order.0, rest.0), rest.1, rest.2)

-- and ends before any behind it starts.
pub ordered_apart : (from : ℕ) (ordered : List Assignment) (to earlier later : ℕ) (d : Assignment) → InOrder from ordered to →
    earlier < later → later < length ordered → end_of (get_or ordered earlier d) ≤ (get_or ordered later d).start
unfolding InOrder
ordered_apart from [] to earlier later d order before inside = absurd (omega (arith, inside))
ordered_apart from (one ∷ more) to earlier zero d order before inside = absurd (omega (arith, before))
ordered_apart from (one ∷ more) to zero (suc later) d order before inside =
    (ordered_inside (end_of one) more to later d order.2 (omega (arith, inside))).0
ordered_apart from (one ∷ more) to (suc earlier) (suc later) d order before inside =
    ordered_apart (end_of one) more to earlier later d order.2 (omega (arith, before)) (omega (arith, inside))
