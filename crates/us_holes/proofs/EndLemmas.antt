-- A board of which only the ends are held: its lists, and what they tell.
use Rattle.std.proofs.Common.{◌≡◌, ℕ, ◌+◌, ◌-◌, ◌<◌, ◌≤◌, ◌==◌, List, [], ◌∷◌, ◌++◌, length, true, false, refl, ap, sym, ◌∙◌, subst, inl, inr, arith}
use Rattle.std.proofs.lemmas.Bool.{cases_lt, lt-ltb, le-ltb, eq-eqb, ne_eqb}
use Rattle.std.proofs.lemmas.List.{append-nil}
use Rattle.us_holes.specs.Boards.{Owner, Board, Assignment, empty_board, assign, assign_some, ends_held}
use Rattle.us_holes.specs.Lists.{board_of, place_among, put, hole_from, hole_in, HasAt, narrowed_at, AreLists, one_from}
use Rattle.us_holes.specs.Runs.{InOrder}
use Rattle.us_holes.proofs.PutLemmas.{put_later, order_within}
use Rattle.us_holes.specs.declared.boards.Board.TheInside.{Inside}
use Rattle.us_holes.proofs.KeptLemmas.{empty_lists, empty_kept, kept_length, kept_range, kept_put, kept_assigned, rank_of_one}
use Rattle.us_holes.proofs.PlacingLemmas.{AreFields, board_in}

-- lists with one hole, and the board that they tell
record AreEnds (assigned : List Assignment) (from to len free : ℕ) (board : Board) : Type 0 where
  lists : AreLists assigned (hole_in from to) (hole_in from to) len free
  told : board_of assigned len ≡ board

hole_some : (from to : ℕ) → from < to → hole_in from to ≡ hole_from from to ∷ []
hole_some from to some = rw (lt-ltb from to some) refl

hole_none : (at : ℕ) → hole_in at at ≡ []
hole_none at = rw (le-ltb at at (omega arith)) refl

-- what is left of a hole from which its first minislots are taken, or its last
first_taken : (to slots : ℕ) → 0 < to → narrowed_at 0 0 slots (hole_in 0 to) ≡ hole_in slots to
unfolding narrowed_at
first_taken to slots some =
    let front : 0 + slots ≡ slots = omega arith in
    let back : 0 + (to - 0) ≡ to = omega arith in
    rw (hole_some 0 to some, front, back) (append-nil (hole_in slots to))

last_taken : (from to slots : ℕ) → from < to → slots ≤ to →
    narrowed_at 0 (to - slots) slots (hole_in from to) ≡ hole_in from (to - slots)
unfolding narrowed_at
last_taken from to slots some few =
    let front : to - slots + slots ≡ to = omega arith in
    let back : from + (to - from) ≡ to = omega arith in
    rw (hole_some from to some, front, back, hole_none to) (append-nil (hole_in from (to - slots)))

has_first : (from to start slots : ℕ) → from < to → from ≤ start → start + slots ≤ to →
    HasAt (hole_in from to) 0 start slots
has_first from to start slots some above below = rw (hole_some from to some) (record {
  inside = omega arith;
  above = λ _. above;
  below = λ _. omega arith;
})

-- one more at an end of the only hole
one_more : (assigned : List Assignment) (from to len free : ℕ) (board : Board) (one : Assignment) (all : List Assignment)
    (next until : ℕ) → AreEnds assigned from to len free board → length assigned < 100 → from < to → from ≤ one.start →
    one.start + one.slots ≤ to → 1 ≤ one.slots → put one assigned ≡ all →
    narrowed_at 0 one.start one.slots (hole_in from to) ≡ hole_in next until →
    AreEnds all next until len (free - one.slots) (assign board one.start one.slots one.owner)
one_more assigned from to len free board one all next until ends few some above below minislots these left =
    let has : HasAt (hole_in from to) 0 one.start one.slots = has_first from to one.start one.slots some above below in
    let kept = kept_put assigned (hole_in from to) (hole_in from to) len free 0 one ends.lists few minislots has in
    let told = kept_assigned assigned (hole_in from to) (hole_in from to) len free 0 one ends.lists minislots has in
    record {
      lists = subst (λ ranked. AreLists all (hole_in next until) ranked len (free - one.slots)) (rank_of_one next until)
          (rw (these, left) at kept);
      told = ap (λ assigned. board_of assigned len) (sym these) ∙ told
          ∙ ap (λ board. assign board one.start one.slots one.owner) ends.told;
    }

first_put : (one : Assignment) → put one [] ≡ one ∷ []
unfolding place_among
first_put one = refl

abbrev one_at : ℕ → ℕ → Owner → Assignment
one_at start slots owner = record { start = start; slots = slots; owner = owner }

head_held : (len head : ℕ) (first : Owner) → 1 ≤ len → len ≤ 4096 → head ≤ len →
    AreEnds (one_from 0 head first) head len len (len - head) (assign_some (empty_board len) 0 head first)
head_held len head first some most few = elim (cases_lt 0 head) [
  | inl more ↦
      let not : (head == 0) ≡ false = ne_eqb head 0 (omega arith) in
      rw not
      (one_more [] 0 len len len (empty_board len) (one_at 0 head first) (one_at 0 head first ∷ []) head len
      (record { lists = empty_kept len some most; told = empty_lists len }) (omega arith) (omega arith) (omega arith)
      (omega arith) more (first_put (one_at 0 head first)) (first_taken len head (omega arith)))
  | inr none ↦
      let zero : head ≡ 0 = omega arith in
      let all : len - 0 ≡ len = omega arith in
      rw (zero, all) (record { lists = empty_kept len some most; told = empty_lists len })
]

-- behind what stands at the start
put_last : (head : ℕ) (first : Owner) (one : Assignment) → put one (one_from 0 head first) ≡ one_from 0 head first ++ one ∷ []
put_last head first one = elim (cases_lt 0 head) [
  | inl more ↦
      let not : (head == 0) ≡ false = ne_eqb head 0 (omega arith) in
      rw not (put_later one (one_at 0 head first) [] (omega arith)
      ∙ ap (λ more. one_at 0 head first ∷ more) (first_put one))
  | inr none ↦
      let is : (head == 0) ≡ true = eq-eqb head 0 (omega arith) in
      rw is (first_put one)
]

head_few : (head : ℕ) (first : Owner) → length (one_from 0 head first) < 100
head_few head first = elim (cases_lt 0 head) [
  | inl more ↦ rw (ne_eqb head 0 (omega arith)) (omega arith)
  | inr none ↦ rw (eq-eqb head 0 (omega arith)) (omega arith)
]

tail_held : (len head tail : ℕ) (first last : Owner) → 1 ≤ len → len ≤ 4096 → head + tail ≤ len →
    AreEnds (one_from 0 head first ++ one_from (len - tail) tail last) head (len - tail) len (len - head - tail)
    (ends_held len head first tail last)
tail_held len head tail first last some most few =
    let ends = head_held len head first some most (omega arith) in
    elim (cases_lt 0 tail) [
      | inl more ↦
          let not : (tail == 0) ≡ false = ne_eqb tail 0 (omega arith) in
          rw not
          (one_more (one_from 0 head first) head len len (len - head) (assign_some (empty_board len) 0 head first)
          (one_at (len - tail) tail last) (one_from 0 head first ++ one_at (len - tail) tail last ∷ []) head (len - tail) ends
          (head_few head first) (omega arith) (omega arith) (omega arith) more
          (put_last head first (one_at (len - tail) tail last)) (last_taken head len tail (omega arith) (omega arith)))
      | inr none ↦
          let zero : tail ≡ 0 = omega arith in
          let all : len - 0 ≡ len = omega arith in
          let same : len - head - 0 ≡ len - head = omega arith in
          rw (zero, all, same, append-nil (one_from 0 head first)) ends
    ]

-- What the lists keep and tell, where there is a hole between two ends.

-- the ends lie in the board
pub record HasEnds (f : Inside) (before : Board) (head tail : ℕ) : Type 0 where
  pub some : 1 ≤ f.len
  pub most : f.len ≤ 4096
  pub few : head + tail ≤ f.len
  pub len : f.len ≡ length before.cells

pub has_ends : (f : Inside) (before : Board) (head tail : ℕ) → AreFields f → board_in f ≡ before →
    head + tail ≤ length before.cells → HasEnds f before head tail
has_ends f before head tail lists is room =
    let range = kept_range f.assigned f.holes.items f.ranked.items f.len f.free lists in
    let len : f.len ≡ length before.cells =
    kept_length f.assigned f.holes.items f.ranked.items f.len f.free lists ∙ ap (λ board. length board.cells) is in
    record { some = range.0; most = range.1; few = omega (arith, room, len); len = len }

pub ends_kept : (len head tail : ℕ) (first last : Owner) → 1 ≤ len → len ≤ 4096 → head + tail ≤ len →
    AreLists (one_from 0 head first ++ one_from (len - tail) tail last) (hole_in head (len - tail))
    (hole_in head (len - tail)) len (len - tail - head)
ends_kept len head tail first last some most few =
    let same : len - head - tail ≡ len - tail - head = omega arith in
    rw same at (tail_held len head tail first last some most few).lists

pub ends_told : (len head tail : ℕ) (first last : Owner) → 1 ≤ len → len ≤ 4096 → head + tail ≤ len →
    board_of (one_from 0 head first ++ one_from (len - tail) tail last) len ≡ ends_held len head first tail last
ends_told len head tail first last some most few = (tail_held len head tail first last some most few).told

pub head_ordered : (len head : ℕ) (first : Owner) → 1 ≤ len → len ≤ 4096 → head ≤ len → InOrder 0 (one_from 0 head first) 4096
head_ordered len head first some most few =
    order_within 0 (one_from 0 head first) len 4096 (head_held len head first some most few).lists.order most

pub ends_ordered : (len head tail : ℕ) (first last : Owner) → 1 ≤ len → len ≤ 4096 → head + tail ≤ len →
    InOrder 0 (one_from 0 head first ++ one_from (len - tail) tail last) 4096
ends_ordered len head tail first last some most few =
    order_within 0 (one_from 0 head first ++ one_from (len - tail) tail last) len 4096
    (ends_kept len head tail first last some most few).order most
