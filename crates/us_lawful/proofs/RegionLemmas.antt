-- Assignments in order are what the minislots of a MAP must be, where its elements are those of their runs.
use Rattle.std.proofs.Common.{◌≡◌, ℕ, ◌+◌, ◌-◌, ◌<◌, ◌≤◌, ◌==◌, ◌⊎◌, Bool, true, false, List, [], ◌∷◌, ◌++◌, map, cond, None, refl, sym, ◌∙◌, subst, append_assoc, append-nil, arith, inl, inr}
use Rattle.std.specs.Prelude.{count_by, nat_lt, nat_le, ◌&&◌, ◌||◌, not}
use Rattle.std.specs.List.{AllByRecursion, list_all, list_any}
use Rattle.std.proofs.lemmas.Bool.{and_from, or_left, or_right, cases_Bool, cases_lt, eq-eqb, le-leb, lt-ltb}
use Rattle.std.proofs.lemmas.Bool.Decides.{nat_tests}
use Rattle.std.proofs.lemmas.List.Sums.{sum_by-cons}
use Rattle.us_flows.specs.declared.channels.Channel.{Channel}
use Rattle.us_holes.specs.Boards.{Assignment}
use Rattle.us_holes.specs.Runs as lists
use Rattle.us_holes.specs.Runs.{Run, InOrder, runs_between, run_of, idle_run}
use Rattle.us_channel.specs.Maps.{gap}
use Rattle.us_lawful.specs.Regions.{Region, end_of, covers, is_same, holder_count, is_free, is_between, is_gap_element, is_gap, is_right_element, none_empty_at, inside_holds, end_holds, minislot_holds}
use Rattle.us_lawful.specs.Laws.{region_for, element_region_for, OrderedAssignmentsHold}
use Rattle.us_lawful.proofs.TestLemmas.{any_first, any_later, any_behind, any_before, all_pass, all_before, any_same}
use Rattle.us_lawful.proofs.SameLemmas.{Same, same_any, same_all, same_count}

-- What all in a list keep.

pub all_imply : {X : Type 0} (P Q : X → Type 0) → ((x : X) → P x → Q x) → (xs : List X) → AllByRecursion P xs → AllByRecursion Q xs
all_imply P Q h [] all = tt
all_imply P Q h (x ∷ xs) all = (h x all.0, all_imply P Q h xs all.1)

starts_from : (from : ℕ) (rest : List Assignment) (len : ℕ) → InOrder from rest len →
    AllByRecursion (λ s. from ≤ s.start) (map region_for rest)
unfolding InOrder
starts_from from [] len h = tt
starts_from from (one ∷ more) len h = (
  h.0,
  all_imply (λ s. lists.end_of one ≤ s.start) (λ s. from ≤ s.start) (λ s later. omega (arith, later, h.0))
      (map region_for more) (starts_from (lists.end_of one) more len h.2),
)

all_push : {X : Type 0} (P : X → Type 0) (xs : List X) (x : X) → AllByRecursion P xs → P x → AllByRecursion P (xs ++ x ∷ [])
all_push P [] x all h = (h, tt)
all_push P (y ∷ xs) x all h = (all.0, all_push P xs x all.1 h)

-- the end of assignments in order is inside
order_end : (from : ℕ) (rest : List Assignment) (len : ℕ) → InOrder from rest len → from ≤ len
unfolding InOrder
order_end from [] len h = h
order_end from (one ∷ more) len h = omega (arith, h.0, order_end (lists.end_of one) more len h.2)

-- a count goes on by one, or doesn't
count_this : {X : Type 0} (p : X → Bool) (x : X) (xs : List X) → p x ≡ true → count_by p (x ∷ xs) ≡ 1 + count_by p xs
count_this p x xs h =
    let one : count_by p (x ∷ xs) ≡ cond (p x) 1 0 + count_by p xs = sum_by-cons (λ x. cond (p x) 1 0) x xs in
    let counts : cond {A = ℕ} (p x) 1 0 ≡ 1 = rw h refl in
    omega (arith, one, counts)

count_other : {X : Type 0} (p : X → Bool) (x : X) (xs : List X) → p x ≡ false → count_by p (x ∷ xs) ≡ count_by p xs
count_other p x xs h =
    let one : count_by p (x ∷ xs) ≡ cond (p x) 1 0 + count_by p xs = sum_by-cons (λ x. cond (p x) 1 0) x xs in
    let counts : cond {A = ℕ} (p x) 1 0 ≡ 0 = rw h refl in
    omega (arith, one, counts)

-- Gaps.

-- the piece of idle minislots
abbrev gap_piece : Channel → ℕ → ℕ → Region
gap_piece c from to = element_region_for c (record { start = from; len = to - from; owner = None })

free_before : (piece : Region) (s : Region) → end_of s ≤ piece.start →
    ((s.slots == 0) || (nat_le (end_of s) piece.start || nat_le (end_of piece) s.start)) ≡ true
free_before piece s h = grind (arith, nat_tests)

free_behind : (piece : Region) (s : Region) → end_of piece ≤ s.start →
    ((s.slots == 0) || (nat_le (end_of s) piece.start || nat_le (end_of piece) s.start)) ≡ true
free_behind piece s h = grind (arith, nat_tests)

free : (piece : Region) (before after : List Region) → AllByRecursion (λ s. end_of s ≤ piece.start) before →
    AllByRecursion (λ s. end_of piece ≤ s.start) after → is_free (before ++ after) piece ≡ true
free piece before after front back =
    all_before (λ s. (s.slots == 0) || (nat_le (end_of s) piece.start || nat_le (end_of piece) s.start)) before after
    (all_pass (λ s. (s.slots == 0) || (nat_le (end_of s) piece.start || nat_le (end_of piece) s.start)) before
    (all_imply (λ s. end_of s ≤ piece.start)
    (λ s. ((s.slots == 0) || (nat_le (end_of s) piece.start || nat_le (end_of piece) s.start)) ≡ true)
    (free_before piece) before front))
    (all_pass (λ s. (s.slots == 0) || (nat_le (end_of s) piece.start || nat_le (end_of piece) s.start)) after
    (all_imply (λ s. end_of piece ≤ s.start)
    (λ s. ((s.slots == 0) || (nat_le (end_of s) piece.start || nat_le (end_of piece) s.start)) ≡ true)
    (free_behind piece) after back))

-- where the minislots before it end: at the start of the MAP, or in a held one
abbrev Begins : ℕ → List Region → Type 0
Begins from before = (from ≡ 0) ⊎ (list_any (covers (from - 1)) before ≡ true)

abbrev Ends : ℕ → ℕ → List Region → Type 0
Ends len to after = (to ≡ len) ⊎ (list_any (covers to) after ≡ true)

begins : (from : ℕ) (before after : List Region) → Begins from before →
    ((from == 0) || list_any (covers (from - 1)) (before ++ after)) ≡ true
begins from before after (inl first) = or_left (from == 0) (list_any (covers (from - 1)) (before ++ after)) (eq-eqb from 0 first)
begins from before after (inr held) =
    or_right (from == 0) (list_any (covers (from - 1)) (before ++ after)) (any_before (covers (from - 1)) before after held)

ends : (len to : ℕ) (before after : List Region) → Ends len to after →
    ((to == len) || list_any (covers to) (before ++ after)) ≡ true
ends len to before after (inl last) = or_left (to == len) (list_any (covers to) (before ++ after)) (eq-eqb to len last)
ends len to before after (inr held) =
    or_right (to == len) (list_any (covers to) (before ++ after)) (any_behind (covers to) before after held)

gap_right : (c : Channel) (len from to : ℕ) (before after : List Region) → from < to →
    AllByRecursion (λ s. end_of s ≤ from) before → AllByRecursion (λ s. to ≤ s.start) after →
    Begins from before → Ends len to after → is_right_element c len (before ++ after) (gap_piece c from to) ≡ true
gap_right c len from to before after some front back begin end =
    let piece : Region = gap_piece c from to in
    let up : end_of piece ≡ to = omega (arith, some) in
    let all : List Region = before ++ after in
    or_right (list_any (is_same piece) all) (is_gap c len all piece)
    (and_from (is_free all piece) (is_between len all piece && is_gap_element c piece)
    (free piece before after front
    (subst (λ n. AllByRecursion (λ s. n ≤ s.start) after) (sym up) back))
    (and_from (is_between len all piece) (is_gap_element c piece)
    (and_from ((from == 0) || list_any (covers (from - 1)) all) ((end_of piece == len) || list_any (covers (end_of piece)) all)
    (begins from before after begin)
    (subst (λ n. ((n == len) || list_any (covers n) all) ≡ true) (sym up) (ends len to before after end)))
    (and_from (piece.sid == (gap c piece.start piece.slots).sid) (piece.iuc == (gap c piece.start piece.slots).iuc)
    (eq-eqb piece.sid piece.sid refl) (eq-eqb piece.iuc piece.iuc refl))))

-- Minislots.

-- the piece that covers a minislot is right
abbrev HasPiece : Channel → ℕ → List Region → List Region → ℕ → Type 0
HasPiece c len all pieces at = list_any (λ piece. covers at piece && is_right_element c len all piece) pieces ≡ true

same_span : (s : Region) → is_same s s ≡ true
same_span s = grind (arith, nat_tests)

has_inside : (s : Region) (at : ℕ) → s.start ≤ at → at < end_of s → covers at s ≡ true
has_inside s at low high = grind (arith, nat_tests)

-- the last minislot before the end of a region is its own
has_last : (s : Region) → 0 < s.slots → covers (end_of s - 1) s ≡ true
has_last s some = has_inside s (end_of s - 1) (omega (arith, some)) (omega (arith, some))

in_gap : (c : Channel) (len from to : ℕ) (all : List Region) (more : List Run) (at : ℕ) → from ≤ at → at < to →
    is_right_element c len all (gap_piece c from to) ≡ true →
    HasPiece c len all (map (element_region_for c) (idle_run from to ++ more)) at
in_gap c len from to all more at low high right = elim (cases_lt from to) [
  | inl some ↦ rw (lt-ltb from to some)
      (any_first (λ piece. covers at piece && is_right_element c len all piece) (gap_piece c from to) (map (element_region_for c) more)
      (and_from (covers at (gap_piece c from to)) (is_right_element c len all (gap_piece c from to))
      (has_inside (gap_piece c from to) at low (omega (arith, some, high))) right))
  | inr none ↦ absurd (omega (arith, none, low, high))
]

behind_gap : (c : Channel) (len from to : ℕ) (all : List Region) (more : List Run) (at : ℕ) →
    HasPiece c len all (map (element_region_for c) more) at → HasPiece c len all (map (element_region_for c) (idle_run from to ++ more)) at
behind_gap c len from to all more at h = elim (cases_Bool (nat_lt from to)) [
  | inl some ↦ rw some (any_later (λ piece. covers at piece && is_right_element c len all piece) (gap_piece c from to)
      (map (element_region_for c) more) h)
  | inr none ↦ rw none h
]

-- A region that is among them is right.
span_right : (c : Channel) (len : ℕ) (before after : List Region) (s : Region) →
    is_right_element c len (before ++ s ∷ after) s ≡ true
span_right c len before after s =
    or_left (list_any (is_same s) (before ++ s ∷ after)) (is_gap c len (before ++ s ∷ after) s)
    (any_behind (is_same s) before (s ∷ after) (any_first (is_same s) s after (same_span s)))

-- Of assignments in order and the gaps between them, one piece covers each minislot, and it is right, whatever stands before
-- them.
stands : (c : Channel) (len from : ℕ) (before : List Region) (rest : List Assignment) (at : ℕ) → InOrder from rest len →
    AllByRecursion (λ s. end_of s ≤ from) before → Begins from before → from ≤ at → at < len →
    HasPiece c len (before ++ map region_for rest) (map (element_region_for c) (runs_between from rest len)) at
unfolding InOrder runs_between
stands c len from before [] at order front begin low high =
    subst (λ runs. HasPiece c len (before ++ []) (map (element_region_for c) runs) at) (append-nil (idle_run from len))
    (in_gap c len from len (before ++ []) [] at low high
    (gap_right c len from len before [] (omega (arith, low, high)) front tt begin (inl refl)))
stands c len from before (one ∷ more) at order front begin low high =
    let s : Region = region_for one in
    let later : List Region = map region_for more in
    let all : List Region = before ++ s ∷ later in
    let end : ℕ = lists.end_of one in
    let rest : List Run = run_of one ∷ runs_between end more len in
    let behind : AllByRecursion (λ s. end ≤ s.start) later = starts_from end more len order.2 in
    elim (cases_lt at one.start) [
      | inl early ↦ in_gap c len from one.start all rest at low early
          (gap_right c len from one.start before (s ∷ later) (omega (arith, low, early)) front
          (omega arith, all_imply (λ s. end ≤ s.start) (λ s. one.start ≤ s.start) (λ s h. omega (arith, h)) later behind)
          begin (inr (any_first (covers one.start) s later (has_inside s one.start (omega arith) (omega (arith, order.1))))))
      | inr started ↦ behind_gap c len from one.start all rest at (elim (cases_lt at end) [
        | inl inside ↦ any_first (λ piece. covers at piece && is_right_element c len all piece) s
            (map (element_region_for c) (runs_between end more len))
            (and_from (covers at s) (is_right_element c len all s) (has_inside s at started inside) (span_right c len before later s))
        | inr over ↦ any_later (λ piece. covers at piece && is_right_element c len all piece) s
            (map (element_region_for c) (runs_between end more len))
            (subst (λ regions. HasPiece c len regions (map (element_region_for c) (runs_between end more len)) at)
            (append_assoc before (s ∷ []) later)
            (stands c len end (before ++ s ∷ []) more at order.2
            (all_push (λ s. end_of s ≤ end) before s
            (all_imply (λ s. end_of s ≤ from) (λ s. end_of s ≤ end) (λ s h. omega (arith, h, order.0)) before front)
            (omega arith))
            (inr (any_behind (covers (end - 1)) before (s ∷ []) (any_first (covers (end - 1)) s [] (has_last s order.1))))
            over high))
      ])
    ]

-- Holders.

-- none of the regions that start behind a minislot covers it
none_later : (at : ℕ) (regions : List Region) → AllByRecursion (λ s. at < s.start) regions → holder_count at regions ≡ 0
none_later at [] h = refl
none_later at (s ∷ regions) h =
    let not_this : covers at s ≡ false = grind (arith, nat_tests, h.0) in
    count_other (covers at) s regions not_this ∙ none_later at regions h.1

one_holder : (at from : ℕ) (rest : List Assignment) (len : ℕ) → InOrder from rest len → holder_count at (map region_for rest) ≤ 1
unfolding InOrder
one_holder at from [] len order = omega arith
one_holder at from (one ∷ more) len order = elim (cases_Bool (covers at (region_for one))) [
  | inl this ↦
      let inside : at < lists.end_of one = grind (arith, nat_tests, this) in
      let rest : holder_count at (map region_for more) ≡ 0 = none_later at (map region_for more)
      (all_imply (λ s. lists.end_of one ≤ s.start) (λ s. at < s.start) (λ s h. omega (arith, h, inside)) (map region_for more)
      (starts_from (lists.end_of one) more len order.2)) in
      omega (arith, rest, count_this (covers at) (region_for one) (map region_for more) this)
  | inr other ↦ omega (
    arith,
    count_other (covers at) (region_for one) (map region_for more) other,
    one_holder at (lists.end_of one) more len order.2,
  )
]

-- Starts and ends.

some_at : (at from : ℕ) (rest : List Assignment) (len : ℕ) → InOrder from rest len →
    none_empty_at (map region_for rest) at ≡ true
unfolding InOrder
some_at at from [] len order = refl
some_at at from (one ∷ more) len order =
    and_from (not (one.start == at) || nat_lt 0 one.slots) (none_empty_at (map region_for more) at)
    (or_right (not (one.start == at)) (nat_lt 0 one.slots) (lt-ltb 0 one.slots order.1))
    (some_at at (lists.end_of one) more len order.2)

inside_end : (at from : ℕ) (rest : List Assignment) (len : ℕ) → InOrder from rest len →
    list_all (λ s. (s.slots == 0) || nat_lt s.start len) (map region_for rest) ≡ true
unfolding InOrder
inside_end at from [] len order = refl
inside_end at from (one ∷ more) len order =
    let low : one.start < len = omega (arith, order.1, order_end (lists.end_of one) more len order.2) in
    and_from ((one.slots == 0) || nat_lt one.start len) (list_all (λ s. (s.slots == 0) || nat_lt s.start len) (map region_for more))
    (or_right (one.slots == 0) (nat_lt one.start len) (lt-ltb one.start len low))
    (inside_end at (lists.end_of one) more len order.2)

-- Assignments in order hold at every minislot of a MAP whose elements are those of their runs.
pub ordered_assignments_hold : OrderedAssignmentsHold
ordered_assignments_hold c len ordered at order =
    let regions : List Region = map region_for ordered in
    let pieces : List Region = map (element_region_for c) (runs_between 0 ordered len) in
    and_from (none_empty_at regions at) (inside_holds c len regions pieces at && end_holds len regions at)
    (some_at at 0 ordered len order)
    (and_from (inside_holds c len regions pieces at) (end_holds len regions at)
    (elim (cases_lt at len) [
      | inl inside ↦ or_right (not (nat_lt at len))
          (nat_le (holder_count at regions) 1 && list_any (λ piece. covers at piece && is_right_element c len regions piece) pieces)
          (and_from (nat_le (holder_count at regions) 1) (list_any (λ piece. covers at piece && is_right_element c len regions piece) pieces)
          (le-leb (holder_count at regions) 1 (one_holder at 0 ordered len order))
          (stands c len 0 [] ordered at order tt (inl refl) (omega arith) inside))
      | inr over ↦ or_left (not (nat_lt at len))
          (nat_le (holder_count at regions) 1 && list_any (λ piece. covers at piece && is_right_element c len regions piece) pieces)
          (grind (arith, nat_tests, over))
    ])
    (or_right (not (at == len)) (list_all (λ s. (s.slots == 0) || nat_lt s.start len) regions)
    (inside_end at 0 ordered len order)))

-- In any order.
pub moved_holds : (c : Channel) (len : ℕ) (regions ordered pieces : List Region) (at : ℕ) → Same regions ordered →
    minislot_holds c len regions pieces at ≡ minislot_holds c len ordered pieces at
moved_holds c len regions ordered pieces at moved =
    let held : (at : ℕ) → list_any (covers at) regions ≡ list_any (covers at) ordered =
    (λ at. same_any (covers at) regions ordered moved) in
    let many : holder_count at regions ≡ holder_count at ordered =
    same_count (covers at) regions ordered moved in
    let right : (piece : Region) → (covers at piece && is_right_element c len regions piece) ≡ (covers at piece && is_right_element c len ordered piece) =
    (λ piece. rw (
      same_any (is_same piece) regions ordered moved,
      held (piece.start - 1),
      held (end_of piece),
      same_all (λ s. (s.slots == 0) || (nat_le (end_of s) piece.start || nat_le (end_of piece) s.start)) regions ordered moved,
    )
    refl) in
    rw (
      same_all (λ s. not (s.start == at) || nat_lt 0 s.slots) regions ordered moved,
      many,
      any_same (λ piece. covers at piece && is_right_element c len regions piece) (λ piece. covers at piece && is_right_element c len ordered piece)
          right pieces,
      same_all (λ s. (s.slots == 0) || nat_lt s.start len) regions ordered moved,
    ) refl
