-- Laws of the definitions, for the crates above: what a search found, what a fit is, and what assignments keep.
use Rattle.std.proofs.Common.{◌≡◌, ℕ, zero, suc, ◌+◌, ◌-◌, ◌⊎◌, ◌<◌, ◌≤◌, nat_le, nat_lt, List, [], ◌∷◌, ◌++◌, length, take, drop, replicate, Bool, true, false, Option, Some, None, is_none, refl, sym, ◌∙◌, inl, inr, arith}
use Rattle.std.specs.List.{list_all, sum_by, AllByRecursion}
use Rattle.std.proofs.lemmas.Bool.{cases_Bool, cases_lt, cases_eq, and_parts, and_from, le-leb, ltb-true, false_from_ne_true}
use Rattle.std.proofs.lemmas.List.{length-replicate}
use Rattle.std.proofs.lemmas.List.Sums.{sum_by-cons}
use Rattle.us_holes.specs.Boards.{Owner, Holder, Board, Assignment, empty_board, is_full, is_idle_at, fits, assign, free_count, first_of, least_fit, IsLeastWithin, IsFirstLongest, longest_up_to, longest_idle, assign_all, AllFit}
use Rattle.us_holes.specs.Placements.{placed, after_placing, Says, IsPlacedAt, HasNoRoom}
use Rattle.us_holes.specs.declared.placements.Placed.{Placed}
use Rattle.us_holes.specs.declared.placements.Placed.TheVariants as answer
use Rattle.us_holes.specs.Kept.{IsBoard}
use Rattle.us_holes.proofs.IdleLemmas.{idle_inside, idle_cells, cells_idle, idle-start}
use Rattle.us_holes.proofs.BoardLemmas.{assign_is_board, assign_free, length-middle}
use Rattle.us_holes.proofs.FitLemmas.{fits-idle}

-- The first number that passes,
pub record IsFirstOf (passes : ℕ → Bool) (from count least : ℕ) : Type 0 where
  pub passing : passes least ≡ true
  pub above : from ≤ least
  pub below : least < from + count
  pub first : (number : ℕ) → from ≤ number → number < least → passes number ≡ false

the_some : (one other : ℕ) → Some one ≡ Some other → one ≡ other
the_some one other e = cc

pub first_of-is : (passes : ℕ → Bool) (from count least : ℕ) → first_of passes from count ≡ Some least →
    IsFirstOf passes from count least
unfolding first_of
first_of-is passes from zero least e = absurd cc
first_of-is passes from (suc count) least e = elim (cases_Bool (passes from)) [
  | inl t ↦
      let same : from ≡ least = the_some from least (rw t at e) in
      record {
        passing = rw (sym same) t;
        above = omega (arith, same);
        below = omega (arith, same);
        first = λ number above below. absurd (omega (arith, above, below, same));
      }
  | inr f ↦
      let later = first_of-is passes (from + 1) count least (rw f at e) in
      record {
        passing = later.passing;
        above = omega (arith, later.above);
        below = omega (arith, later.below);
        first = λ number above below. next f later.first number above below (cases_eq from number);
      }
]
  where
    next : passes from ≡ false → ((number : ℕ) → from + 1 ≤ number → number < least → passes number ≡ false) →
        (number : ℕ) → from ≤ number → number < least → (from ≡ number) ⊎ (from ≡ number → ⊥) → passes number ≡ false
    next f more number above below (inl same) = rw (sym same) f
    next f more number above below (inr other) = more number (omega (arith, above, other)) below

-- and that none does.
pub first_of-is_none : (passes : ℕ → Bool) (from count : ℕ) → first_of passes from count ≡ None →
    (number : ℕ) → from ≤ number → number < from + count → passes number ≡ false
unfolding first_of
first_of-is_none passes from zero e number above below = absurd (omega (arith, above, below))
first_of-is_none passes from (suc count) e number above below = elim (cases_Bool (passes from)) [
  | inl t ↦ let no : Some from ≡ None = rw t at e in absurd cc
  | inr f ↦ elim (cases_eq from number) [
    | inl same ↦ rw (sym same) f
    | inr other ↦
        first_of-is_none passes (from + 1) count (rw f at e) number (omega (arith, above, other)) (omega (arith, below))
  ]
]

pub least_fit-is : (board : Board) (from to slots start : ℕ) → least_fit board from to slots ≡ Some start →
    IsLeastWithin (fits board slots) from to start
least_fit-is board from to slots start e =
    let is = first_of-is (fits board slots) from (to + 1 - from) start e in
    record {
      passing = is.passing;
      above = is.above;
      below = omega (arith, is.above, is.below);
      first = is.first;
    }

pub least_fit-is_none : (board : Board) (from to slots : ℕ) → least_fit board from to slots ≡ None →
    (start : ℕ) → from ≤ start → start ≤ to → fits board slots start ≡ false
least_fit-is_none board from to slots e start above below =
    first_of-is_none (fits board slots) from (to + 1 - from) e start above (omega (arith, above, below))

-- Fewer minislots are idle where more are.
pub idle_part : (cells : List (Option Holder)) (more start fewer at : ℕ) → is_idle_at cells more start ≡ true →
    start ≤ at → at + fewer ≤ start + more → is_idle_at cells fewer at ≡ true
idle_part cells more start zero at h above below =
    and_from (nat_le (at + 0) (length cells)) (list_all is_none (take 0 (drop at cells)))
    (le-leb (at + 0) (length cells) (omega (arith, below, idle_inside cells more start h))) refl
idle_part cells more start (suc fewer) at h above below =
    cells_idle cells (suc fewer) at (omega arith)
    (λ one over under. idle_cells cells more start h one (omega (arith, above, over)) (omega (arith, under, below)))

pub idle_fewer : (cells : List (Option Holder)) (more fewer start : ℕ) → is_idle_at cells more start ≡ true →
    fewer ≤ more → is_idle_at cells fewer start ≡ true
idle_fewer cells more fewer start h few = idle_part cells more start fewer start h (omega arith) (omega (arith, few))

-- all of an empty board is idle
pub empty_idle : (len slots start : ℕ) → start + slots ≤ len → is_idle_at (empty_board len).cells slots start ≡ true
empty_idle len slots start inside =
    idle_part (replicate len None) len 0 slots start (all_idle len) (omega arith) (omega (arith, inside))
  where
    none_held : (count : ℕ) → list_all is_none (take count (replicate {A = Option Holder} count None)) ≡ true
    none_held zero = refl
    none_held (suc count) = none_held count

    all_idle : (count : ℕ) → is_idle_at (replicate count None) count 0 ≡ true
    all_idle count =
        and_from (nat_le (0 + count) (length (replicate {A = Option Holder} count None)))
        (list_all is_none (take count (replicate {A = Option Holder} count None)))
        (le-leb (0 + count) (length (replicate {A = Option Holder} count None))
        (rw (length-replicate {A = Option Holder} count None) (omega arith))) (none_held count)

-- The first longest run is what the search finds,
abbrev first_part : ℕ × ℕ → ℕ
first_part p = p.0

abbrev second_part : ℕ × ℕ → ℕ
second_part p = p.1

the_pair : (found other : ℕ × ℕ) → Some found ≡ Some other → found ≡ other
the_pair found other e = cc

abbrev IsMost : List (Option Holder) → ℕ → Type 0
IsMost cells limit = (at many : ℕ) → is_idle_at cells many at ≡ true → 0 < many → many ≤ limit

found_longest : (cells : List (Option Holder)) (limit start : ℕ) → IsMost cells (suc limit) →
    first_of (is_idle_at cells (suc limit)) 0 (length cells) ≡ Some start → IsFirstLongest cells start (suc limit)
found_longest cells limit start most e =
    let is = first_of-is (is_idle_at cells (suc limit)) 0 (length cells) start e in
    record {
      some = omega arith;
      idle = is.passing;
      longest = most;
      first = λ at idle. elim (cases_lt at start) [
        | inr later ↦ later
        | inl earlier ↦
            let no : false ≡ true = sym (is.first at (omega arith) earlier) ∙ idle in
            absurd cc
      ];
    }

fewer_most : (cells : List (Option Holder)) (limit : ℕ) → IsMost cells (suc limit) →
    first_of (is_idle_at cells (suc limit)) 0 (length cells) ≡ None → IsMost cells limit
fewer_most cells limit most e at many idle some = elim (cases_eq many (suc limit)) [
  | inr other ↦ omega (arith, other, most at many idle some)
  | inl same ↦
      let inside : at < length cells = (idle-start cells many at some idle).0 in
      let none : is_idle_at cells (suc limit) at ≡ false =
      first_of-is_none (is_idle_at cells (suc limit)) 0 (length cells) e at (omega arith) (omega (arith, inside)) in
      let no : false ≡ true = sym none ∙ (rw same at idle) in
      absurd cc
]

cases_Option : (o : Option ℕ) → (o ≡ None) ⊎ (x : ℕ) × (o ≡ Some x)
cases_Option None = inl refl
cases_Option (Some x) = inr (x, refl)

longest_up_to-is : (cells : List (Option Holder)) (limit : ℕ) (found : ℕ × ℕ) → IsMost cells limit →
    longest_up_to cells limit ≡ Some found → IsFirstLongest cells found.0 found.1
unfolding longest_up_to
longest_up_to-is cells zero found most e = absurd cc
longest_up_to-is cells (suc limit) found most e =
    elim (cases_Option (first_of (is_idle_at cells (suc limit)) 0 (length cells))) [
      | inl none ↦ longest_up_to-is cells limit found (fewer_most cells limit most none) (rw none at e)
      | inr some ↦
          let same : (some.0, suc limit) ≡ found = the_pair (some.0, suc limit) found (rw some.1 at e) in
          rw (sym same) (found_longest cells limit some.0 most some.1)
    ]

all_most : (cells : List (Option Holder)) → IsMost cells (length cells)
all_most cells at many idle some = (idle-start cells many at some idle).1

pub longest_idle-is : (cells : List (Option Holder)) (start slots : ℕ) → longest_idle cells ≡ Some (start, slots) →
    IsFirstLongest cells start slots
longest_idle-is cells start slots e = longest_up_to-is cells (length cells) (start, slots) (all_most cells) e

-- and where it finds none, no minislot is idle.
longest_up_to-is_none : (cells : List (Option Holder)) (limit : ℕ) → IsMost cells limit →
    longest_up_to cells limit ≡ None → IsMost cells 0
unfolding longest_up_to
longest_up_to-is_none cells zero most e = most
longest_up_to-is_none cells (suc limit) most e =
    elim (cases_Option (first_of (is_idle_at cells (suc limit)) 0 (length cells))) [
      | inl none ↦ longest_up_to-is_none cells limit (fewer_most cells limit most none) (rw none at e)
      | inr some ↦ let no : Some (some.0, suc limit) ≡ None = rw some.1 at e in absurd cc
    ]

pub longest_idle-is_none : (cells : List (Option Holder)) → longest_idle cells ≡ None →
    (start slots : ℕ) → 0 < slots → is_idle_at cells slots start ≡ false
longest_idle-is_none cells e start slots some =
    false_from_ne_true (is_idle_at cells slots start)
    (λ idle. omega (arith, some, longest_up_to-is_none cells (length cells) (all_most cells) e start slots idle some))

-- A fit: there may be one more assignment, and the minislots are idle, and inside.
pub record IsFit (board : Board) (slots start : ℕ) : Type 0 where
  pub few : board.standing < 100
  pub idle : is_idle_at board.cells slots start ≡ true
  pub inside : start + slots ≤ length board.cells

pub fit : (board : Board) (slots start : ℕ) → fits board slots start ≡ true → IsFit board slots start
fit board slots start h =
    let parts = and_parts (nat_lt board.standing 100) (is_idle_at board.cells slots start) h in
    record {
      few = ltb-true board.standing 100 parts.0;
      idle = parts.1;
      inside = idle_inside board.cells slots start parts.1;
    }

-- An assignment of a minislot or more at a fit keeps what every board keeps,
pub fit_is_board : (board : Board) (start slots : ℕ) (owner : Owner) → IsBoard board → 0 < slots →
    fits board slots start ≡ true → IsBoard (assign board start slots owner)
fit_is_board board start slots owner is some h =
    let known = fit board slots start h in
    assign_is_board board start slots owner is known.few some known.idle

-- takes its minislots from those that are idle,
pub fit_free : (board : Board) (start slots : ℕ) (owner : Owner) → fits board slots start ≡ true →
    free_count (assign board start slots owner).cells + slots ≡ free_count board.cells
fit_free board start slots owner h =
    assign_free board.cells start slots (record { start = start; owner = owner }) (fit board slots start h).idle

-- and keeps the length.
pub fit_length : (board : Board) (start slots : ℕ) (owner : Owner) → fits board slots start ≡ true →
    length (assign board start slots owner).cells ≡ length board.cells
fit_length board start slots owner h =
    length-middle start slots (Some (record { start = start; owner = owner })) board.cells (fit board slots start h).inside

-- Assignments one after another are those of the first part, then those of the second.
pub assign_all-append : (board : Board) (one other : List Assignment) →
    assign_all board (one ++ other) ≡ assign_all (assign_all board one) other
unfolding assign_all
assign_all-append board [] other = refl
assign_all-append board (i ∷ more) other = assign_all-append (assign board i.start i.slots i.owner) more other

pub AllFit-append : (board : Board) (one other : List Assignment) → AllFit board one →
    AllFit (assign_all board one) other → AllFit board (one ++ other)
unfolding assign_all AllFit
AllFit-append board [] other h k = k
AllFit-append board (i ∷ more) other h k = (h.0, AllFit-append (assign board i.start i.slots i.owner) more other h.1 k)

pub AllFit-parts : (board : Board) (one other : List Assignment) → AllFit board (one ++ other) →
    AllFit board one × AllFit (assign_all board one) other
unfolding assign_all AllFit
AllFit-parts board [] other h = (tt, h)
AllFit-parts board (i ∷ more) other h =
    let rest = AllFit-parts (assign board i.start i.slots i.owner) more other h.1 in
    ((h.0, rest.0), rest.1)

-- They keep the length, and, where each has a minislot, what every board keeps,
pub assign_all-length : (board : Board) (assignments : List Assignment) → AllFit board assignments →
    length (assign_all board assignments).cells ≡ length board.cells
unfolding assign_all AllFit
assign_all-length board [] h = refl
assign_all-length board (i ∷ more) h =
    assign_all-length (assign board i.start i.slots i.owner) more h.1 ∙ fit_length board i.start i.slots i.owner h.0

pub assign_all-is_board : (board : Board) (assignments : List Assignment) → IsBoard board → AllFit board assignments →
    AllByRecursion (λ (one : Assignment). 0 < one.slots) assignments → IsBoard (assign_all board assignments)
unfolding assign_all AllFit
assign_all-is_board board [] is h some = is
assign_all-is_board board (i ∷ more) is h some =
    assign_all-is_board (assign board i.start i.slots i.owner) more
    (fit_is_board board i.start i.slots i.owner is some.0 h.0) h.1 some.1

-- and count: as many stand more, and as many minislots as all have are no longer idle.
pub assign_all-standing : (board : Board) (assignments : List Assignment) →
    (assign_all board assignments).standing ≡ board.standing + length assignments
unfolding assign_all
assign_all-standing board [] = omega arith
assign_all-standing board (i ∷ more) =
    assign_all-standing (assign board i.start i.slots i.owner) more ∙ omega arith

pub assign_all-free : (board : Board) (assignments : List Assignment) → AllFit board assignments →
    free_count (assign_all board assignments).cells + sum_by (λ i. i.slots) assignments ≡ free_count board.cells
unfolding assign_all AllFit
assign_all-free board [] h = omega arith
assign_all-free board (i ∷ more) h =
    omega (
      arith,
      assign_all-free (assign board i.start i.slots i.owner) more h.1,
      fit_free board i.start i.slots i.owner h.0,
      sum_by-cons (λ (one : Assignment). one.slots) i more,
    )

-- What a placement answers, as a property of the board before,
no_room : (board : Board) (from to slots : ℕ) → is_full board ≡ false → least_fit board from to slots ≡ None →
    HasNoRoom board from to slots
no_room board from to slots few e = record {
  few = few;
  none = λ start above below.
      false_from_ne_true (is_idle_at board.cells slots start)
      (λ idle.
      let no : false ≡ true =
      sym (least_fit-is_none board from to slots e start above below) ∙ fits-idle board slots start few idle in
      cc);
}

placed_at : (board : Board) (from to slots start : ℕ) → least_fit board from to slots ≡ Some start →
    IsPlacedAt board from to slots start
placed_at board from to slots start e =
    let least = least_fit-is board from to slots start e in
    let known = fit board slots start least.passing in
    record { least = least; idle = known.idle; inside = known.inside }

pub placed_says : (board : Board) (from to slots : ℕ) → Says board from to slots (placed board from to slots)
placed_says board from to slots = elim (cases_Bool (is_full board)) [
  | inl full ↦ rw full full
  | inr few ↦ elim (cases_Option (least_fit board from to slots)) [
    | inl none ↦ rw (few, none) (no_room board from to slots few none)
    | inr some ↦ rw (few, some.1) (refl, placed_at board from to slots some.0 some.1)
  ]
]

-- and what it leaves, where a minislot or more is to be placed: a board.
said_keeps : (board : Board) (from to slots : ℕ) (owner : Owner) (answered : Placed) → IsBoard board → 0 < slots →
    Says board from to slots answered → IsBoard (after_placing board owner answered)
said_keeps board from to slots owner (answer.At start many) is some says =
    rw says.0 (fit_is_board board start slots owner is some says.1.least.passing)
said_keeps board from to slots owner answer.Full is some says = is
said_keeps board from to slots owner answer.NoRoom is some says = is

pub placed_keeps : (board : Board) (from to slots : ℕ) (owner : Owner) → IsBoard board → 0 < slots →
    IsBoard (after_placing board owner (placed board from to slots))
placed_keeps board from to slots owner is some =
    said_keeps board from to slots owner (placed board from to slots) is some (placed_says board from to slots)
