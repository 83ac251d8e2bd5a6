-- What an assignment changes of a board, and what it keeps.
use Rattle.std.proofs.Common.{◌≡◌, ℕ, zero, suc, ◌+◌, ◌-◌, ◌<◌, ◌≤◌, ◌⊎◌, nat_le, List, [], ◌∷◌, ◌++◌, length, replicate, take, drop, get_or, true, false, cond, Option, Some, None, is_none, refl, ap, sym, ◌∙◌, inl, inr, arith}
use Rattle.std.specs.List.{list_all}
use Rattle.std.proofs.lemmas.Bool.{cases_Bool, cases_lt, and_parts, eq-eqb, ne_eqb}
use Rattle.std.proofs.lemmas.List.{drop-drop, take-append-drop, length-replicate, length-append, length-take-le, length-drop, get_or-append_right, get_or_append_left, get_or-take, get_or-replicate, get_or-drop, get_or_default}
use Rattle.std.proofs.lemmas.List.Sums.{sum_by-append, sum_by-cons}
use Rattle.std.proofs.lemmas.List.Folds.{sum_by-replicate}
use Rattle.us_holes.specs.Boards.{Owner, Holder, Board, empty_board, is_idle_at, assign, free_count}
use Rattle.us_holes.specs.Runs.{same_cell}
use Rattle.us_holes.specs.Kept.{cell_at, AreHeldFromStart, begun, changes, IsBoard}
use Rattle.us_holes.proofs.RunLemmas.{same_cell-refl}
use Rattle.us_holes.proofs.IdleLemmas.{idle_inside, idle_cells, nobody}

-- a change counts once
abbrev change : Option Holder → Option Holder → ℕ
change one other = cond (same_cell one other) 0 1

change-most : (one other : Option Holder) → change one other ≤ 1
change-most one other = elim (cases_Bool (same_cell one other)) [ inl t ↦ rw t (omega arith) | inr f ↦ rw f (omega arith) ]

-- Where two lists meet, there is at most one change more,
changes-append : (xs ys : List (Option Holder)) → changes (xs ++ ys) ≤ changes xs + 1 + changes ys
unfolding changes
changes-append [] ys = omega arith
changes-append (x ∷ []) [] = omega arith
changes-append (x ∷ []) (y ∷ ys) = omega (arith, change-most x y)
changes-append (x ∷ z ∷ xs) ys = omega (arith, changes-append (z ∷ xs) ys)

-- and no fewer.
changes-parts : (xs ys : List (Option Holder)) → changes xs + changes ys ≤ changes (xs ++ ys)
unfolding changes
changes-parts [] ys = omega arith
changes-parts (x ∷ []) [] = omega arith
changes-parts (x ∷ []) (y ∷ ys) = omega arith
changes-parts (x ∷ z ∷ xs) ys = omega (arith, changes-parts (z ∷ xs) ys)

changes-replicate : (count : ℕ) (cell : Option Holder) → changes (replicate count cell) ≡ 0
unfolding changes
changes-replicate zero cell = refl
changes-replicate (suc zero) cell = refl
changes-replicate (suc (suc count)) cell =
    rw (same_cell-refl cell) (omega (arith, changes-replicate (suc count) cell))

changes-halves : (at : ℕ) (cells : List (Option Holder)) → changes (take at cells) + changes (drop at cells) ≤ changes cells
changes-halves at cells =
    let both : changes (take at cells) + changes (drop at cells) ≤ changes (take at cells ++ drop at cells) =
    changes-parts (take at cells) (drop at cells) in
    rw (take-append-drop at cells) at both

-- One holder in the middle brings at most two changes.
changes-middle : (start slots : ℕ) (cell : Option Holder) (cells : List (Option Holder)) →
    changes (take start cells ++ replicate slots cell ++ drop (start + slots) cells) ≤ changes cells + 2
changes-middle start slots cell cells =
    let front : changes (take start cells ++ replicate slots cell) ≤ changes (take start cells) + 1 + changes (replicate slots cell) =
    changes-append (take start cells) (replicate slots cell) in
    let all = changes-append (take start cells ++ replicate slots cell) (drop (start + slots) cells) in
    let back : changes (take slots (drop start cells)) + changes (drop slots (drop start cells)) ≤ changes (drop start cells) =
    changes-halves slots (drop start cells) in
    let rest : changes (drop slots (drop start cells)) ≡ changes (drop (start + slots) cells) =
    ap (λ xs. changes xs) (drop-drop slots start cells) in
    omega (arith, front, all, back, rest, changes-replicate slots cell, changes-halves start cells)

-- A list whose middle is replaced keeps its length,
pub length-middle : (start slots : ℕ) (cell : Option Holder) (cells : List (Option Holder)) → start + slots ≤ length cells →
    length (take start cells ++ replicate slots cell ++ drop (start + slots) cells) ≡ length cells
length-middle start slots cell cells h =
    rw (
      length-append (take start cells ++ replicate slots cell) (drop (start + slots) cells),
      length-append (take start cells) (replicate slots cell),
      length-replicate slots cell,
      length-take-le start cells (omega (arith, h)),
      length-drop (start + slots) cells,
    ) (omega (arith, h))

-- has what was written there,
front_length : (start slots : ℕ) (cell : Option Holder) (cells : List (Option Holder)) → start + slots ≤ length cells →
    length (take start cells ++ replicate slots cell) ≡ start + slots
front_length start slots cell cells h =
    rw (
      length-append (take start cells) (replicate slots cell),
      length-replicate slots cell,
      length-take-le start cells (omega (arith, h)),
    ) refl

pub cell-written : (start slots at : ℕ) (cell : Option Holder) (cells : List (Option Holder)) → start + slots ≤ length cells →
    start ≤ at → at < start + slots →
    cell_at (take start cells ++ replicate slots cell ++ drop (start + slots) cells) at ≡ cell
cell-written start slots at cell cells h above below =
    get_or_append_left (take start cells ++ replicate slots cell) (drop (start + slots) cells) None at
    (rw (front_length start slots cell cells h) below)
    ∙ get_or-append_right (take start cells) (replicate slots cell) start at None (length-take-le start cells (omega (arith, h))) above
    ∙ get_or-replicate slots (at - start) cell None (omega (arith, above, below))

-- and is elsewhere as it was.
pub cell-before : (start slots at : ℕ) (cell : Option Holder) (cells : List (Option Holder)) → start + slots ≤ length cells →
    at < start → cell_at (take start cells ++ replicate slots cell ++ drop (start + slots) cells) at ≡ cell_at cells at
cell-before start slots at cell cells h below =
    get_or_append_left (take start cells ++ replicate slots cell) (drop (start + slots) cells) None at
    (rw (front_length start slots cell cells h) (omega (arith, below)))
    ∙ get_or_append_left (take start cells) (replicate slots cell) None at (rw (length-take-le start cells (omega (arith, h))) below)
    ∙ get_or-take start cells at None below

pub cell-behind : (start slots at : ℕ) (cell : Option Holder) (cells : List (Option Holder)) → start + slots ≤ length cells →
    start + slots ≤ at → cell_at (take start cells ++ replicate slots cell ++ drop (start + slots) cells) at ≡ cell_at cells at
cell-behind start slots at cell cells h above =
    let place : start + slots + (at - (start + slots)) ≡ at = omega (arith, above) in
    get_or-append_right (take start cells ++ replicate slots cell) (drop (start + slots) cells) (start + slots) at None
    (front_length start slots cell cells h) above
    ∙ get_or-drop (start + slots) cells (at - (start + slots)) None
    ∙ ap (λ one. cell_at cells one) place

-- The minislots of an assignment, and the others.
pub cell_outside : (start slots at : ℕ) (cell : Option Holder) (cells : List (Option Holder)) → start + slots ≤ length cells →
    (at < start) ⊎ (start + slots ≤ at) →
    cell_at (take start cells ++ replicate slots cell ++ drop (start + slots) cells) at ≡ cell_at cells at
cell_outside start slots at cell cells h (inl below) = cell-before start slots at cell cells h below
cell_outside start slots at cell cells h (inr above) = cell-behind start slots at cell cells h above

none_of : (cell : Option Holder) → is_none cell ≡ true → cell ≡ None
none_of None h = refl
none_of (Some holder) h = let no : false ≡ true = h in absurd cc

-- idle minislots are nobody's
pub idle_cell : (cells : List (Option Holder)) (slots start at : ℕ) → is_idle_at cells slots start ≡ true → start ≤ at →
    at < start + slots → cell_at cells at ≡ None
idle_cell cells slots start at h above below =
    let inside : at < length cells = omega (arith, below, idle_inside cells slots start h) in
    get_or_default cells at None (Some nobody) inside
    ∙ none_of (get_or cells at (Some nobody)) (idle_cells cells slots start h at above below)

-- where a minislot is, as seen from an assignment
pub where_is : (start slots at : ℕ) → ((start ≤ at) × (at < start + slots)) ⊎ ((at < start) ⊎ (start + slots ≤ at))
where_is start slots at = elim (cases_lt at start) [
  | inl before ↦ inr (inl before)
  | inr above ↦ elim (cases_lt at (start + slots)) [
    | inl below ↦ inl (above, below)
    | inr behind ↦ inr (inr behind)
  ]
]

some_none : (holder : Holder) (cell : Option Holder) → cell ≡ None → cell ≡ Some holder → ⊥
some_none holder cell none some = cc

pub assign_held : (cells : List (Option Holder)) (start slots : ℕ) (owner : Owner) → AreHeldFromStart cells →
    is_idle_at cells slots start ≡ true →
    AreHeldFromStart (take start cells ++ replicate slots (Some (record { start = start; owner = owner })) ++ drop (start + slots) cells)
assign_held cells start slots owner held idle at holder e = elim (where_is start slots at) [
  | inl here ↦
      let is : mine ≡ holder = the_same (sym (cell-written start slots at (Some mine) cells inside here.0 here.1) ∙ e) in
      let first : start ≡ holder.start = ap (λ h. h.start) is in (
        omega (arith, first, here.0),
        λ between above below. cell-written start slots between (Some mine) cells inside (omega (arith, first, above)) (omega (arith, below, here.1))
            ∙ ap (λ h. Some h) is,
      )
  | inr outside ↦
      let known = held at holder (sym (cell_outside start slots at (Some mine) cells inside outside) ∙ e) in
      (known.0, λ between above below. kept between (known.1 between above below) (where_is start slots between))
]
  where
    mine : Holder
    mine = record { start = start; owner = owner }

    inside : start + slots ≤ length cells
    inside = idle_inside cells slots start idle

    the_same : Some mine ≡ Some holder → mine ≡ holder
    the_same same = cc

    kept : (between : ℕ) → cell_at cells between ≡ Some holder →
        ((start ≤ between) × (between < start + slots)) ⊎ ((between < start) ⊎ (start + slots ≤ between)) →
        cell_at (take start cells ++ replicate slots (Some mine) ++ drop (start + slots) cells) between ≡ Some holder
    kept between was (inl here) =
        absurd (some_none holder (cell_at cells between) (idle_cell cells slots start between idle here.0 here.1) was)
    kept between was (inr out) = cell_outside start slots between (Some mine) cells inside out ∙ was

pub nobody_holds : (len at : ℕ) → cell_at (replicate len None) at ≡ None
nobody_holds zero at = refl
nobody_holds (suc len) zero = refl
nobody_holds (suc len) (suc at) = nobody_holds len at

-- Minislots that begin an assignment are counted part by part.
begun-append : (at : ℕ) (xs ys : List (Option Holder)) → begun at (xs ++ ys) ≡ begun at xs + begun (at + length xs) ys
unfolding begun
begun-append at [] ys =
    let place : at + 0 ≡ at = omega arith in
    omega (arith, ap (λ n. begun n ys) place)
begun-append at (x ∷ xs) ys =
    let place : at + 1 + length xs ≡ at + length (x ∷ xs) = omega arith in
    omega (arith, begun-append (at + 1) xs ys, ap (λ n. begun n ys) place)

begun-idle : (at : ℕ) (cells : List (Option Holder)) → list_all is_none cells ≡ true → begun at cells ≡ 0
unfolding begun
begun-idle at [] h = refl
begun-idle at (None ∷ cells) h = omega (arith, begun-idle (at + 1) cells h)
begun-idle at (Some holder ∷ cells) h = let no : false ≡ true = h in absurd cc

begun-none : (at count : ℕ) → begun at (replicate count None) ≡ 0
unfolding begun
begun-none at zero = refl
begun-none at (suc count) = omega (arith, begun-none (at + 1) count)

begun-later : (count at : ℕ) (holder : Holder) → holder.start < at → begun at (replicate count (Some holder)) ≡ 0
unfolding begun
begun-later zero at holder h = refl
begun-later (suc count) at holder h =
    rw (ne_eqb holder.start at (λ same. omega (arith, h, same)))
    (omega (arith, begun-later count (at + 1) holder (omega (arith, h))))

begun-held : (slots : ℕ) (holder : Holder) → 0 < slots → begun holder.start (replicate slots (Some holder)) ≡ 1
unfolding begun
begun-held zero holder some = absurd (omega (arith, some))
begun-held (suc slots) holder some =
    rw (eq-eqb holder.start holder.start refl)
    (omega (arith, begun-later slots (holder.start + 1) holder (omega arith)))

-- One more assignment on idle minislots begins once.
begun-assign : (cells : List (Option Holder)) (start slots : ℕ) (owner : Owner) → 0 < slots →
    is_idle_at cells slots start ≡ true →
    begun 0 (take start cells ++ replicate slots (Some (record { start = start; owner = owner })) ++ drop (start + slots) cells) ≡
    begun 0 cells + 1
begun-assign cells start slots owner some idle =
    let holder : Holder = record { start = start; owner = owner } in
    let held : List (Option Holder) = replicate slots (Some holder) in
    let inside : start + slots ≤ length cells = idle_inside cells slots start idle in
    let middle : begun start (take slots (drop start cells)) ≡ 0 =
    begun-idle start (take slots (drop start cells))
    (and_parts (nat_le (start + slots) (length cells)) (list_all is_none (take slots (drop start cells))) idle).1 in
    let front : 0 + length (take start cells) ≡ start = omega (arith, length-take-le start cells (omega (arith, inside))) in
    let both : 0 + length (take start cells ++ held) ≡ start + slots =
    omega (arith, front_length start slots (Some holder) cells inside) in
    let seam : start + length (take slots (drop start cells)) ≡ start + slots =
    omega (arith, length-take-le slots (drop start cells) (rw (length-drop start cells) (omega (arith, inside)))) in
    let whole : begun 0 cells ≡ begun 0 (take start cells) + begun (0 + length (take start cells)) (drop start cells) =
    ap (λ xs. begun 0 xs) (sym (take-append-drop start cells)) ∙ begun-append 0 (take start cells) (drop start cells) in
    let back : begun start (drop start cells) ≡
    begun start (take slots (drop start cells)) + begun (start + length (take slots (drop start cells))) (drop slots (drop start cells)) =
    ap (λ xs. begun start xs) (sym (take-append-drop slots (drop start cells)))
    ∙ begun-append start (take slots (drop start cells)) (drop slots (drop start cells)) in
    omega (
      arith,
      middle,
      whole,
      back,
      ap (λ n. begun n (drop start cells)) front,
      ap (λ n. begun n held) front,
      ap (λ n. begun n (drop slots (drop start cells))) seam,
      ap (λ xs. begun (start + slots) xs) (drop-drop slots start cells),
      ap (λ n. begun n (drop (start + slots) cells)) both,
      begun-append 0 (take start cells ++ held) (drop (start + slots) cells),
      begun-append 0 (take start cells) held,
      begun-held slots holder some,
    )

pub empty_is_board : (len : ℕ) → 1 ≤ len → len ≤ 4096 → IsBoard (empty_board len)
empty_is_board len some most =
    let idle : Option Holder = None in
    record {
      some = rw (length-replicate len idle) some;
      most = rw (length-replicate len idle) most;
      standing = omega arith;
      begun = begun-none 0 len;
      held = λ at holder e. absurd (some_none holder (cell_at (replicate len None) at) (nobody_holds len at) e);
      changes = omega (arith, changes-replicate len idle);
    }

pub assign_is_board : (board : Board) (start slots : ℕ) (owner : Owner) → IsBoard board → board.standing < 100 → 0 < slots →
    is_idle_at board.cells slots start ≡ true → IsBoard (assign board start slots owner)
assign_is_board board start slots owner is few some idle =
    let holder : Option Holder = Some (record { start = start; owner = owner }) in
    let long : length (assign board start slots owner).cells ≡ length board.cells =
    length-middle start slots holder board.cells (idle_inside board.cells slots start idle) in
    record {
      some = omega (arith, long, is.some);
      most = omega (arith, long, is.most);
      standing = omega (arith, few);
      begun = omega (arith, is.begun, begun-assign board.cells start slots owner some idle);
      held = assign_held board.cells start slots owner is.held idle;
      changes = omega (arith, is.changes, changes-middle start slots holder board.cells);
    }

-- Idle minislots are counted part by part.
abbrev one_idle : Option Holder → ℕ
one_idle cell = cond (is_none cell) 1 0

count-append : (xs ys : List (Option Holder)) → free_count (xs ++ ys) ≡ free_count xs + free_count ys
count-append xs ys = sum_by-append one_idle xs ys

count-held : (count : ℕ) (holder : Holder) → free_count (replicate count (Some holder)) ≡ 0
count-held count holder = sum_by-replicate one_idle count (Some holder) ∙ omega arith

count-none : (count : ℕ) → free_count (replicate count None) ≡ count
count-none count = sum_by-replicate one_idle count None ∙ omega arith

count-all : (cells : List (Option Holder)) → list_all is_none cells ≡ true → free_count cells ≡ length cells
count-all [] h = refl
count-all (None ∷ cells) h = sum_by-cons one_idle None cells ∙ omega (arith, count-all cells h)
count-all (Some holder ∷ cells) h = let no : false ≡ true = h in absurd cc

pub empty_free : (len : ℕ) → free_count (empty_board len).cells ≡ len
empty_free len = count-none len

-- an assignment of idle minislots leaves as many fewer
pub assign_free : (cells : List (Option Holder)) (start slots : ℕ) (holder : Holder) → is_idle_at cells slots start ≡ true →
    free_count (take start cells ++ replicate slots (Some holder) ++ drop (start + slots) cells) + slots ≡ free_count cells
assign_free cells start slots holder idle =
    let inside : start + slots ≤ length cells = idle_inside cells slots start idle in
    let middle : free_count (take slots (drop start cells)) ≡ length (take slots (drop start cells)) =
    count-all (take slots (drop start cells)) (and_parts (nat_le (start + slots) (length cells)) (list_all is_none (take slots (drop start cells))) idle).1 in
    let long : length (take slots (drop start cells)) ≡ slots =
    length-take-le slots (drop start cells) (rw (length-drop start cells) (omega (arith, inside))) in
    let all : free_count (take start cells) + free_count (drop start cells) ≡ free_count cells =
    sym (count-append (take start cells) (drop start cells)) ∙ ap (λ xs. free_count xs) (take-append-drop start cells) in
    let back : free_count (take slots (drop start cells)) + free_count (drop (start + slots) cells) ≡ free_count (drop start cells) =
    ap (λ xs. free_count (take slots (drop start cells)) + free_count xs) (sym (drop-drop slots start cells))
    ∙ sym (count-append (take slots (drop start cells)) (drop slots (drop start cells)))
    ∙ ap (λ xs. free_count xs) (take-append-drop slots (drop start cells)) in
    omega (
      arith,
      middle,
      long,
      all,
      back,
      count-append (take start cells ++ replicate slots (Some holder)) (drop (start + slots) cells),
      count-append (take start cells) (replicate slots (Some holder)),
      count-held slots holder,
    )
