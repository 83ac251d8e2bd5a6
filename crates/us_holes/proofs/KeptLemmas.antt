-- What the fields of a board keep, and what they tell of it.
use Rattle.std.proofs.Common.{◌≡◌, ℕ, ◌+◌, ◌-◌, ◌<◌, ◌≤◌, List, [], ◌∷◌, ◌++◌, length, false, Option, Some, None, IfSome, IfNone, refl, ap, sym, ◌∙◌, inl, inr, arith}
use Rattle.std.proofs.lemmas.Bool.{cases_lt, lt-ltb, le-ltb, false_from_ne_true}
use Rattle.us_holes.specs.Boards.{Holder, Assignment, empty_board, is_idle_at, assign, free_count, IsLeastWithin, IsFirstLongest, longest_idle}
use Rattle.us_holes.specs.Runs.{end_of, InOrder}
use Rattle.us_holes.specs.Lists.{its_holder, cells_of, board_of, put, Hole, hole_in, holes_of, fit, HasAt, narrowed_at, place_for, rank, first_in, AreLists}
use Rattle.us_holes.proofs.IdleLemmas.{longest-some, longest-none}
use Rattle.us_holes.proofs.BoardLemmas.{empty_is_board, empty_free, assign_is_board, assign_free}
use Rattle.us_holes.proofs.CellLemmas.{HasRoom, room_inside, room_is_idle, idle_has_room, cells_length}
use Rattle.us_holes.proofs.PutLemmas.{put_order, put_assigned}
use Rattle.us_holes.proofs.HoleLemmas.{holes_apart, at_room, IsFit, fit_is, fit_none, put_holes}
use Rattle.us_holes.proofs.RankLemmas.{IsMost, first_is_most, first_is_none}

-- An idle board.
pub empty_lists : (len : ℕ) → board_of [] len ≡ empty_board len
unfolding cells_of
empty_lists len = let all : len - 0 ≡ len = omega arith in rw all refl

pub rank_of_one : (from to : ℕ) → rank (hole_in from to) ≡ hole_in from to
unfolding rank place_for
rank_of_one from to = elim (cases_lt from to) [
  | inl some ↦ rw (lt-ltb from to some) refl
  | inr none ↦ rw (le-ltb from to none) refl
]

pub empty_kept : (len : ℕ) → 1 ≤ len → len ≤ 4096 → AreLists [] (hole_in 0 len) (hole_in 0 len) len len
unfolding InOrder holes_of
empty_kept len some most = record {
  board = rw (empty_lists len) (empty_is_board len some most);
  order = omega arith;
  between = refl;
  by_rank = sym (rank_of_one 0 len);
  idle = sym (ap (λ board. free_count board.cells) (empty_lists len) ∙ empty_free len);
}

-- The length.
pub kept_length : (assigned : List Assignment) (holes ranked : List Hole) (len free : ℕ) →
    AreLists assigned holes ranked len free → len ≡ length (cells_of 0 assigned len)
kept_length assigned holes ranked len free lists = omega (arith, cells_length 0 assigned len lists.order)

pub kept_range : (assigned : List Assignment) (holes ranked : List Hole) (len free : ℕ) →
    AreLists assigned holes ranked len free → (1 ≤ len) × (len ≤ 4096)
kept_range assigned holes ranked len free lists =
    let is = kept_length assigned holes ranked len free lists in
    (omega (arith, is, lists.board.some), omega (arith, is, lists.board.most))

-- One hole more than assignments at most.
gap_length : (from to : ℕ) (holes : List Hole) → length (hole_in from to ++ holes) ≤ length holes + 1
gap_length from to holes = elim (cases_lt from to) [
  | inl some ↦ rw (lt-ltb from to some) (omega arith)
  | inr none ↦ rw (le-ltb from to none) (omega arith)
]

alone_length : (from to : ℕ) → length (hole_in from to) ≤ 1
alone_length from to = elim (cases_lt from to) [
  | inl some ↦ rw (lt-ltb from to some) (omega arith)
  | inr none ↦ rw (le-ltb from to none) (omega arith)
]

holes_few : (from : ℕ) (assigned : List Assignment) (to : ℕ) → length (holes_of from assigned to) ≤ length assigned + 1
unfolding holes_of
holes_few from [] to = omega (arith, alone_length from to)
holes_few from (one ∷ more) to =
    omega (arith, gap_length from one.start (holes_of (end_of one) more to), holes_few (end_of one) more to)

pub kept_few : (assigned : List Assignment) (holes ranked : List Hole) (len free : ℕ) →
    AreLists assigned holes ranked len free → length holes ≤ length assigned + 1
kept_few assigned holes ranked len free lists = rw lists.between (holes_few 0 assigned len)

-- What a search found,
pub record IsFound (assigned : List Assignment) (holes : List Hole) (len from to slots place start : ℕ) : Type 0 where
  pub has : HasAt holes place start slots
  pub inside : start + slots ≤ len
  pub least : IsLeastWithin (is_idle_at (cells_of 0 assigned len) slots) from to start

room_of : (assigned : List Assignment) (holes : List Hole) (len slots start : ℕ) → holes ≡ holes_of 0 assigned len →
    HasRoom holes slots start → HasRoom (holes_of 0 assigned len) slots start
room_of assigned holes len slots start between h = rw between at h

pub kept_found : (assigned : List Assignment) (holes ranked : List Hole) (len free from to slots place start : ℕ) →
    AreLists assigned holes ranked len free → 1 ≤ slots → Some (place, start) ≡ fit 0 from to slots holes →
    IsFound assigned holes len from to slots place start
kept_found assigned holes ranked len free from to slots place start lists some e =
    let found : IsFit holes 0 from to slots place start =
    fit_is 0 0 from to slots place start holes (rw lists.between (holes_apart 0 assigned len lists.order)) (sym e) in
    let here : found.number ≡ place = omega (arith, found.place_is) in
    let room = room_of assigned holes len slots start lists.between (at_room holes found.number start slots found.has) in
    record {
      has = rw here at found.has;
      inside = (room_inside 0 assigned len slots start lists.order room).1;
      least = record {
        passing = room_is_idle assigned len slots start lists.order some room;
        above = found.above;
        below = found.below;
        first = λ at above below.
            false_from_ne_true (is_idle_at (cells_of 0 assigned len) slots at)
            (λ idle. found.first_one at above below (rw lists.between (idle_has_room assigned len slots at lists.order some idle)));
      };
    }

-- and what it says that found nothing.
pub kept_none : (assigned : List Assignment) (holes ranked : List Hole) (len free from to slots : ℕ) →
    AreLists assigned holes ranked len free → 1 ≤ slots → None ≡ fit 0 from to slots holes →
    (start : ℕ) → from ≤ start → start ≤ to → is_idle_at (cells_of 0 assigned len) slots start ≡ false
kept_none assigned holes ranked len free from to slots lists some e start above below =
    false_from_ne_true (is_idle_at (cells_of 0 assigned len) slots start)
    (λ idle.
    fit_none 0 from to slots holes (sym e) start above below
    (rw lists.between (idle_has_room assigned len slots start lists.order some idle)))

-- One more assignment.
pub kept_put : (assigned : List Assignment) (holes ranked : List Hole) (len free place : ℕ) (one : Assignment) →
    AreLists assigned holes ranked len free → length assigned < 100 → 1 ≤ one.slots →
    HasAt holes place one.start one.slots →
    AreLists (put one assigned) (narrowed_at place one.start one.slots holes) (rank (narrowed_at place one.start one.slots holes)) len (free - one.slots)
kept_put assigned holes ranked len free place one lists few some has =
    let has : HasAt (holes_of 0 assigned len) place one.start one.slots = rw lists.between at has in
    let room : HasRoom (holes_of 0 assigned len) one.slots one.start =
    at_room (holes_of 0 assigned len) place one.start one.slots has in
    let idle = room_is_idle assigned len one.slots one.start lists.order some room in
    let is : board_of (put one assigned) len ≡ assign (board_of assigned len) one.start one.slots one.owner =
    put_assigned assigned len one lists.order some room in
    let free_is : free_count (cells_of 0 (put one assigned) len) ≡
    free_count (assign (board_of assigned len) one.start one.slots one.owner).cells =
    ap (λ board. free_count board.cells) is in
    record {
      board = rw is (assign_is_board (board_of assigned len) one.start one.slots one.owner lists.board few some idle);
      order = put_order 0 assigned len one lists.order some room;
      between = rw lists.between (sym (put_holes 0 assigned len one lists.order some place has));
      by_rank = refl;
      idle = omega (arith, free_is, assign_free (cells_of 0 assigned len) one.start one.slots (its_holder one) idle, lists.idle);
    }

pub kept_assigned : (assigned : List Assignment) (holes ranked : List Hole) (len free place : ℕ) (one : Assignment) →
    AreLists assigned holes ranked len free → 1 ≤ one.slots → HasAt holes place one.start one.slots →
    board_of (put one assigned) len ≡ assign (board_of assigned len) one.start one.slots one.owner
kept_assigned assigned holes ranked len free place one lists some has =
    put_assigned assigned len one lists.order some
    (room_of assigned holes len one.slots one.start lists.between (at_room holes place one.start one.slots has))

pub kept_free : (assigned : List Assignment) (holes ranked : List Hole) (len free place : ℕ) (one : Assignment) →
    AreLists assigned holes ranked len free → 1 ≤ one.slots → HasAt holes place one.start one.slots → one.slots ≤ free
kept_free assigned holes ranked len free place one lists some has =
    let room = room_of assigned holes len one.slots one.start lists.between (at_room holes place one.start one.slots has) in
    omega (
      arith,
      assign_free (cells_of 0 assigned len) one.start one.slots (its_holder one)
          (room_is_idle assigned len one.slots one.start lists.order some room),
      lists.idle,
    )

-- The first by rank.
pub kept_longest : (assigned : List Assignment) (holes ranked : List Hole) (len free start slots : ℕ) →
    AreLists assigned holes ranked len free → Some (start, slots) ≡ first_in ranked →
    IsFirstLongest (cells_of 0 assigned len) start slots
kept_longest assigned holes ranked len free start slots lists e =
    let most : IsMost (holes_of 0 assigned len) (record { start = start; slots = slots }) =
    first_is_most 0 (holes_of 0 assigned len) start slots (holes_apart 0 assigned len lists.order)
    (rw (lists.by_rank, lists.between) at e) in
    record {
      some = most.some;
      idle = room_is_idle assigned len slots start lists.order most.some most.room;
      longest = λ at many idle some. most.longest at many (idle_has_room assigned len many at lists.order some idle);
      first = λ at idle. most.first at (idle_has_room assigned len slots at lists.order most.some idle);
    }

pub kept_no_longest : (assigned : List Assignment) (holes ranked : List Hole) (len free : ℕ) →
    AreLists assigned holes ranked len free → None ≡ first_in ranked →
    (start slots : ℕ) → 0 < slots → is_idle_at (cells_of 0 assigned len) slots start ≡ false
kept_no_longest assigned holes ranked len free lists e start slots some =
    false_from_ne_true (is_idle_at (cells_of 0 assigned len) slots start)
    (λ idle.
    first_is_none 0 (holes_of 0 assigned len) start slots (holes_apart 0 assigned len lists.order)
    (rw (lists.by_rank, lists.between) at e) (idle_has_room assigned len slots start lists.order some idle))

-- What is told of the longest hole.
pub record IsToldLongest (cells : List (Option Holder)) (told : Option (ℕ × ℕ)) : Type 0 where
  pub longest : IfSome told (λ found. IsFirstLongest cells found.0 found.1)
  pub none : IfNone told ((start slots : ℕ) → 0 < slots → is_idle_at cells slots start ≡ false)
  pub value : told ≡ longest_idle cells

pub kept_told : (assigned : List Assignment) (holes ranked : List Hole) (len free : ℕ) (told : Option (ℕ × ℕ)) →
    AreLists assigned holes ranked len free → told ≡ first_in ranked → IsToldLongest (cells_of 0 assigned len) told
kept_told assigned holes ranked len free None lists e =
    let none = kept_no_longest assigned holes ranked len free lists e in
    record { longest = tt; none = none; value = longest-none (cells_of 0 assigned len) none }
kept_told assigned holes ranked len free (Some found) lists e =
    let is = kept_longest assigned holes ranked len free found.0 found.1 lists e in
    record { longest = is; none = tt; value = longest-some (cells_of 0 assigned len) found.0 found.1 is }

pub ruleset empty_facts = (empty_lists, empty_kept)
