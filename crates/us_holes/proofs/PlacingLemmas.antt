-- A placement: what its answer tells of the board before, and what stands then.
use Rattle.std.proofs.Common.{◌≡◌, ℕ, ◌+◌, ◌-◌, ◌≤◌, length, false, Some, None, ap, ◌∙◌, arith}
use Rattle.us_holes.specs.Boards.{Board, Assignment, is_full, is_idle_at, assign, IsLeastWithin}
use Rattle.us_holes.specs.Placements.{placed, IsPlacedAt, HasNoRoom}
use Rattle.us_holes.specs.declared.placements.Placed.TheVariants as answer
use Rattle.us_holes.specs.declared.boards.Board.TheInside.{Inside}
use Rattle.us_holes.specs.Runs.{InOrder}
use Rattle.us_holes.specs.Lists.{cells_of, board_of, put, AreApart, fit, HasAt, narrowed_at, rank, AreLists}
use Rattle.us_holes.proofs.FitLemmas.{not_full, placed-at, says-at, placed-none}
use Rattle.us_holes.proofs.CellLemmas.{cells_length}
use Rattle.us_holes.proofs.PutLemmas.{order_within}
use Rattle.us_holes.proofs.HoleLemmas.{holes_apart}
use Rattle.us_holes.proofs.KeptLemmas.{kept_few, kept_length, kept_found, kept_none, kept_put, kept_assigned, kept_free}

abbrev pub AreFields : Inside → Type 0
AreFields f = AreLists f.assigned f.holes.items f.ranked.items f.len f.free

abbrev pub board_in : Inside → Board
board_in f = board_of f.assigned f.len

pub fields_apart : (f : Inside) → AreFields f → AreApart 0 f.holes.items
fields_apart f lists = rw lists.between (holes_apart 0 f.assigned f.len lists.order)

-- The lists with a search's answer,
pub record IsPlacing (f : Inside) (before : Board) (from to place : ℕ) (one : Assignment) : Type 0 where
  pub most : one.start + one.slots ≤ 4096
  pub order : InOrder 0 (put one f.assigned) 4096
  pub few : length f.holes.items ≤ 100
  pub has : HasAt f.holes.items place one.start one.slots
  pub free : one.slots ≤ f.free
  pub kept : AreLists (put one f.assigned) (narrowed_at place one.start one.slots f.holes.items)
      (rank (narrowed_at place one.start one.slots f.holes.items)) f.len (f.free - one.slots)
  pub value : answer.At one.start one.slots ≡ placed before from to one.slots
  pub says : IsPlacedAt before from to one.slots one.start
  pub board : board_of (put one f.assigned) f.len ≡ assign before one.start one.slots one.owner
  pub len_is : length (cells_of 0 (put one f.assigned) f.len) ≡ length before.cells

pub placing : (f : Inside) (before : Board) (from to place : ℕ) (one : Assignment) → AreFields f → board_in f ≡ before →
    is_full before ≡ false → 1 ≤ one.slots → Some (place, one.start) ≡ fit 0 from to one.slots f.holes.items →
    IsPlacing f before from to place one
placing f before from to place one lists is few some e =
    let found = kept_found f.assigned f.holes.items f.ranked.items f.len f.free from to one.slots place one.start lists some e in
    let standing = ap (λ board. board.standing) is in
    let cells : cells_of 0 f.assigned f.len ≡ before.cells = ap (λ board. board.cells) is in
    let length_is : f.len ≡ length (cells_of 0 f.assigned f.len) =
    kept_length f.assigned f.holes.items f.ranked.items f.len f.free lists in
    let least : IsLeastWithin (is_idle_at before.cells one.slots) from to one.start = rw cells at found.least in
    let kept = kept_put f.assigned f.holes.items f.ranked.items f.len f.free place one lists
    (omega (arith, not_full before few, standing)) some found.has in
    record {
      most = omega (arith, found.inside, length_is, lists.board.most);
      order = order_within 0 (put one f.assigned) f.len 4096 kept.order (omega (arith, length_is, lists.board.most));
      few = omega (
        arith,
        kept_few f.assigned f.holes.items f.ranked.items f.len f.free lists,
        not_full before few,
        standing,
      );
      has = found.has;
      free = kept_free f.assigned f.holes.items f.ranked.items f.len f.free place one lists some found.has;
      kept = kept;
      value = placed-at before from to one.slots one.start few least;
      says = says-at before from to one.slots one.start few least;
      board = kept_assigned f.assigned f.holes.items f.ranked.items f.len f.free place one lists some found.has
          ∙ ap (λ board. assign board one.start one.slots one.owner) is;
      len_is = cells_length 0 (put one f.assigned) f.len kept.order ∙ omega (arith, length_is, ap (λ cells. length cells) cells);
    }

-- or with none.
pub record IsRefusing (before : Board) (from to slots : ℕ) : Type 0 where
  pub value : answer.NoRoom ≡ placed before from to slots
  pub says : HasNoRoom before from to slots

pub refusing : (f : Inside) (before : Board) (from to slots : ℕ) → AreFields f → board_in f ≡ before →
    is_full before ≡ false → 1 ≤ slots → None ≡ fit 0 from to slots f.holes.items → IsRefusing before from to slots
refusing f before from to slots lists is few some e =
    let none = kept_none f.assigned f.holes.items f.ranked.items f.len f.free from to slots lists some e in
    let cells : cells_of 0 f.assigned f.len ≡ before.cells = ap (λ board. board.cells) is in
    let none : (start : ℕ) → from ≤ start → start ≤ to → is_idle_at before.cells slots start ≡ false = rw cells at none in
    record { value = placed-none before from to slots few none; says = record { few = few; none = none } }
