-- Where the reserves go, minislots are idle.
use Rattle.std.proofs.Common.{◌≡◌, ℕ, zero, suc, ◌+◌, ◌-◌, ◌%◌, ◌<◌, ◌≤◌, ◌==◌, nat_le, List, length, replicate, take, drop, true, Option, Some, None, is_none, refl, ◌∙◌, inl, inr, arith}
use Rattle.std.specs.List.{list_all}
use Rattle.std.proofs.lemmas.Bool.{cases_Bool, and_from, le-leb}
use Rattle.std.proofs.lemmas.List.{drop-replicate, length-replicate, length-append, length-drop}
use Rattle.std.proofs.lemmas.Slice.{drop-append-drop}
use Rattle.us_flows.specs.declared.channels.Channel.{Channel}
use Rattle.us_holes.specs.Boards.{Owner, Holder, Board, empty_board, is_idle_at, fits, assign, ends_held}
use Rattle.us_holes.proofs.LawLemmas.{fit_length}
use Rattle.us_channel.specs.Reserves.{reserved, maintenance_in, maintenance, reserves}
use Rattle.us_channel.proofs.FitLemmas.{fit_from}

-- minislots that nobody holds are idle
none_held : (count many : ℕ) → list_all is_none (take many (replicate {A = Option Holder} count None)) ≡ true
none_held zero zero = refl
none_held zero (suc many) = refl
none_held (suc count) zero = refl
none_held (suc count) (suc many) = none_held count many

-- the last minislots are idle, whatever holds those at the start
idle_end : (cells : List (Option Holder)) (len slots : ℕ) → slots ≤ len → length cells ≡ len →
    drop (len - slots) cells ≡ drop (len - slots) (replicate {A = Option Holder} len None) →
    is_idle_at cells slots (len - slots) ≡ true
idle_end cells len slots few long same =
    let rest : drop (len - slots) cells ≡ replicate (len - (len - slots)) None =
    same ∙ drop-replicate (len - slots) len None in
    and_from (nat_le (len - slots + slots) (length cells)) (list_all is_none (take slots (drop (len - slots) cells)))
    (le-leb (len - slots + slots) (length cells) (rw long (omega (arith, few))))
    (rw rest (none_held (len - (len - slots)) slots))

pub empty_fits : (len slots : ℕ) → slots ≤ len → fits (empty_board len) slots 0 ≡ true
empty_fits len slots few =
    let cells : List (Option Holder) = replicate len None in
    fit_from (empty_board len) slots 0 (omega arith)
    (and_from (nat_le (0 + slots) (length cells)) (list_all is_none (take slots cells))
    (le-leb (0 + slots) (length cells) (rw (length-replicate {A = Option Holder} len None) (omega arith)))
    (none_held len slots))

assigned_end : (len first slots : ℕ) (owner : Owner) → first + slots ≤ len →
    is_idle_at (assign (empty_board len) 0 first owner).cells slots (len - slots) ≡ true
assigned_end len first slots owner few =
    let holder : Option Holder = Some (record { start = 0; owner = owner }) in
    let zero_plus : 0 + first ≡ first = omega arith in
    idle_end (assign (empty_board len) 0 first owner).cells len slots (omega arith)
    (rw zero_plus (rw (
      length-append (replicate first holder) (drop first (replicate len None)),
      length-replicate first holder,
      length-drop first (replicate {A = Option Holder} len None),
      length-replicate {A = Option Holder} len None,
    ) (omega arith)))
    (rw zero_plus (drop-append-drop first (replicate {A = Option Holder} len None) (replicate first holder)
    (len - slots) (omega arith) (length-replicate first holder)))

reserved_end : (len first slots iuc : ℕ) → first + slots ≤ len →
    is_idle_at (reserved (empty_board len) 0 first iuc).cells slots (len - slots) ≡ true
reserved_end len first slots iuc few = elim (cases_Bool (first == 0)) [
  | inl none ↦ rw none
      (idle_end (replicate len None) len slots (omega arith) (length-replicate {A = Option Holder} len None) refl)
  | inr some ↦ rw some (assigned_end len first slots (record { sid = 16383; iuc = iuc }) few)
]

maintained_end : (c : Channel) (len round : ℕ) → c.maintenance_minislots + c.contention_minislots ≤ len →
    is_idle_at (maintenance c round (empty_board len)).cells c.contention_minislots (len - c.contention_minislots) ≡ true
maintained_end c len round few = elim (cases_Bool (round % c.maintenance_every == 0)) [
  | inl meets ↦ rw meets (reserved_end len c.maintenance_minislots c.contention_minislots 3 few)
  | inr other ↦ rw other
      (idle_end (replicate len None) len c.contention_minislots (omega arith)
      (length-replicate {A = Option Holder} len None) refl)
]

reserved_few : (len first iuc : ℕ) → (reserved (empty_board len) 0 first iuc).standing ≤ 1
reserved_few len first iuc = elim (cases_Bool (first == 0)) [
  | inl none ↦ rw none (omega arith)
  | inr some ↦ rw some (omega arith)
]

maintained_few : (c : Channel) (len round : ℕ) → (maintenance c round (empty_board len)).standing < 100
maintained_few c len round = elim (cases_Bool (round % c.maintenance_every == 0)) [
  | inl meets ↦ rw meets (omega (arith, reserved_few len c.maintenance_minislots 3))
  | inr other ↦ rw other (omega arith)
]

pub maintained_fits : (c : Channel) (len round : ℕ) → c.maintenance_minislots + c.contention_minislots ≤ len →
    fits (maintenance c round (empty_board len)) c.contention_minislots (len - c.contention_minislots) ≡ true
maintained_fits c len round few =
    fit_from (maintenance c round (empty_board len)) c.contention_minislots (len - c.contention_minislots)
    (maintained_few c len round) (maintained_end c len round few)

-- Reserves are the ends of a board.
pub reserves_are_ends : (c : Channel) (len round : ℕ) →
    ends_held len (maintenance_in c round) (record { sid = 16383; iuc = 3 }) c.contention_minislots (record { sid = 16383; iuc = 1 })
    ≡ reserves c len round
unfolding reserves
reserves_are_ends c len round = elim (cases_Bool (round % c.maintenance_every == 0)) [
  | inl meets ↦ rw meets refl
  | inr other ↦ rw other refl
]

pub ruleset reserve_facts = (reserves_are_ends)

-- Reserves leave a board its length.

reserved_length : (board : Board) (start slots iuc : ℕ) → fits board slots start ≡ true →
    length (reserved board start slots iuc).cells ≡ length board.cells
reserved_length board start slots iuc fit = elim (cases_Bool (slots == 0)) [
  | inl none ↦ rw none refl
  | inr some ↦ rw some (fit_length board start slots (record { sid = 16383; iuc = iuc }) fit)
]

maintained_length : (c : Channel) (len round : ℕ) → c.maintenance_minislots ≤ len →
    length (maintenance c round (empty_board len)).cells ≡ len
maintained_length c len round few = elim (cases_Bool (round % c.maintenance_every == 0)) [
  | inl meets ↦ rw meets
      (reserved_length (empty_board len) 0 c.maintenance_minislots 3 (empty_fits len c.maintenance_minislots few)
      ∙ length-replicate {A = Option Holder} len None)
  | inr other ↦ rw other (length-replicate {A = Option Holder} len None)
]

pub reserves_length : (c : Channel) (len round : ℕ) → c.maintenance_minislots + c.contention_minislots ≤ len →
    length (reserves c len round).cells ≡ len
unfolding reserves
reserves_length c len round few =
    reserved_length (maintenance c round (empty_board len)) (len - c.contention_minislots) c.contention_minislots 1
    (maintained_fits c len round few) ∙ maintained_length c len round (omega (arith, few))
