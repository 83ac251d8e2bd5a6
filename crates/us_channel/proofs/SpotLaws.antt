-- What a spot is worth: at least a byte, at most the share, and its grant fits.
use Rattle.std.proofs.Common.{◌≡◌, ◌⊎◌, ℕ, zero, suc, ◌+◌, ◌-◌, ◌<◌, ◌≤◌, ◌==◌, List, length, Bool, true, false, Option, Some, None, is_some, refl, ap, sym, ◌∙◌, subst, cond, eq-eqb, arith, inl, inr}
use Rattle.std.specs.Option.{option_or}
use Rattle.std.specs.Prelude.{option_map, option_and_then}
use Rattle.std.proofs.lemmas.Bool.{cases_Bool, cases_lt}
use Rattle.us_slots.specs.Bursts.{ChannelBursts, IsChannelBursts, burst_cost, grant_cost}
use Rattle.us_slots.specs.Capacities.{capacity_of}
use Rattle.us_slots.proofs.CostLemmas.{burst_cost-mono}
use Rattle.us_slots.proofs.CostLaws.{within_long, capacity_fits}
use Rattle.us_holes.specs.Boards.{Holder, Board, is_idle_at, is_full, fits, first_of, least_fit, longest_up_to, longest_idle}
use Rattle.us_channel.specs.Placements.{Spot, carried, part_spot, spot}
use Rattle.us_channel.proofs.FitLemmas.{fit_from, few_where_not_full, idle_inside, idle_fewer}

-- What a search finds passes, and where it finds nothing, nothing does.

first_passes : (passes : ℕ → Bool) (from count found : ℕ) → first_of passes from count ≡ Some found →
    passes found ≡ true
unfolding first_of
first_passes passes from zero found is = let no : None ≡ Some found = is in absurd cc
first_passes passes from (suc count) found is = elim (cases_Bool (passes from)) [
  | inl here ↦
      let at : Some from ≡ Some found = rw here at is in
      let same : from ≡ found = cc in
      rw same at here
  | inr not ↦ first_passes passes (from + 1) count found (rw not at is)
]

none_passes : (passes : ℕ → Bool) (from count number : ℕ) → first_of passes from count ≡ None → from ≤ number →
    number < from + count → passes number ≡ false
unfolding first_of
none_passes passes from zero number is above below = absurd (omega arith)
none_passes passes from (suc count) number is above below = elim (cases_Bool (passes from)) [
  | inl here ↦ let no : Some from ≡ None = rw here at is in absurd cc
  | inr not ↦ elim (cases_lt from number) [
    | inl later ↦ none_passes passes (from + 1) count number (rw not at is) (omega arith) (omega arith)
    | inr first ↦ let same : from ≡ number = omega arith in rw same at not
  ]
]

none_is : {X : Type 0} (x : X) → None ≡ Some x → ⊥
none_is x is = cc

abbrev run_of : Option (ℕ × ℕ) → ℕ × ℕ
run_of None = (0, 0)
run_of (Some run) = run

longest_is : (cells : List (Option Holder)) (limit start slots : ℕ) →
    longest_up_to cells limit ≡ Some (start, slots) → (is_idle_at cells slots start ≡ true) × (0 < slots)
unfolding longest_up_to
longest_is cells zero start slots is = absurd (none_is (start, slots) is)
longest_is cells (suc limit) start slots is =
    by (first_of (is_idle_at cells (suc limit)) 0 (length cells)) refl (λ rest. longest_is cells limit start slots rest) is
  where
    by : (found : Option ℕ) → first_of (is_idle_at cells (suc limit)) 0 (length cells) ≡ found →
        (longest_up_to cells limit ≡ Some (start, slots) → (is_idle_at cells slots start ≡ true) × (0 < slots)) →
        cond (is_some found) (option_map (λ start. (start, suc limit)) found) (longest_up_to cells limit)
        ≡ Some (start, slots) → (is_idle_at cells slots start ≡ true) × (0 < slots)
    by None at shorter is = shorter is
    by (Some first) at shorter is =
        let starts : first ≡ start = ap (λ found. (run_of found).0) is in
        let many : suc limit ≡ slots = ap (λ found. (run_of found).1) is in
        (rw (starts, many) at (first_passes (is_idle_at cells (suc limit)) 0 (length cells) first at), omega arith)

-- Spots.

-- a spot of the whole share: the least start where its grant fits
record IsWhole (b : ChannelBursts) (header share : ℕ) (board : Board) (s : Spot) : Type 0 where
  credit : s.credit ≡ share
  least : least_fit board 0 (length board.cells - 1) (grant_cost b (share + header)).0 ≡ Some s.start

-- a spot of a part: an idle run that carries it, where the whole share has no room
record IsPart (b : ChannelBursts) (header share : ℕ) (board : Board) (s : Spot) : Type 0 where
  room : is_full board ≡ false
  none : least_fit board 0 (length board.cells - 1) (grant_cost b (share + header)).0 ≡ None
  slots : ℕ
  idle : is_idle_at board.cells slots s.start ≡ true
  long : 0 < slots
  credit : s.credit ≡ capacity_of b.time b.long slots - header
  some : 0 < s.credit

some_is : {X : Type 0} (x y : X) → Some x ≡ Some y → x ≡ y
some_is x y is = cc

carried_is : (b : ChannelBursts) (header share : ℕ) (board : Board) (run : Option (ℕ × ℕ)) (s : Spot) →
    is_full board ≡ false → least_fit board 0 (length board.cells - 1) (grant_cost b (share + header)).0 ≡ None →
    longest_idle board.cells ≡ run → option_and_then (carried b header) run ≡ Some s → IsPart b header share board s
carried_is b header share board None s room none at found = let no : None ≡ Some s = found in absurd cc
carried_is b header share board (Some run) s room none at found =
    let longest = longest_is board.cells (length board.cells) run.0 run.1 at in
    let credit : ℕ = capacity_of b.time b.long run.1 - header in
    elim (cases_Bool (credit == 0)) [
      | inl empty ↦ let no : None ≡ Some s = rw empty at found in absurd cc
      | inr some ↦
          let made : Spot = record { start = run.0; credit = credit } in
          let here : Some made ≡ Some s = rw some at found in
          let above : 0 < credit = grind (arith, eq-eqb credit 0) in
          subst (IsPart b header share board) (some_is made s here) (record {
            room = room;
            none = none;
            slots = run.1;
            idle = longest.0;
            long = longest.1;
            credit = refl;
            some = above;
          })
    ]

spot_cases : (b : ChannelBursts) (header share : ℕ) (board : Board) (s : Spot) → spot b header share board ≡ Some s →
    IsWhole b header share board s ⊎ IsPart b header share board s
unfolding spot
spot_cases b header share board s found = elim (cases_Bool (is_full board)) [
  | inl full ↦ let no : None ≡ Some s = rw full at found in absurd cc
  | inr room ↦
      by (least_fit board 0 (length board.cells - 1) (grant_cost b (share + header)).0) refl room (rw room at found)
]
  where
    by : (whole : Option ℕ) → least_fit board 0 (length board.cells - 1) (grant_cost b (share + header)).0 ≡ whole →
        is_full board ≡ false →
        option_or (option_map (λ start. record { start = start; credit = share }) whole) (part_spot b header board)
        ≡ Some s → IsWhole b header share board s ⊎ IsPart b header share board s
    by None at room found = inr (carried_is b header share board (longest_idle board.cells) s room at refl found)
    by (Some start) at room found =
        let made : Spot = record { start = start; credit = share } in
        let here : Some made ≡ Some s = found in
        inl (subst (IsWhole b header share board) (some_is made s here) (record { credit = refl; least = at }))

-- The grant of a spot fits, whatever its claim and the channel's bursts are.

whole_fits : (b : ChannelBursts) (header share : ℕ) (board : Board) (s : Spot) → IsWhole b header share board s →
    fits board (grant_cost b (s.credit + header)).0 s.start ≡ true
whole_fits b header share board s whole = rw whole.credit
    (first_passes (fits board (grant_cost b (share + header)).0) 0 (length board.cells - 1 + 1 - 0) s.start whole.least)

part_fits : (b : ChannelBursts) (header share : ℕ) (board : Board) (s : Spot) → IsPart b header share board s →
    fits board (grant_cost b (s.credit + header)).0 s.start ≡ true
part_fits b header share board s part =
    let most : ℕ = capacity_of b.time b.long part.slots in
    let same : s.credit + header ≡ most = omega (arith, part.credit, part.some) in
    let carries : burst_cost b.time b.long most ≤ part.slots =
    capacity_fits b.time b.long part.slots (omega (arith, part.credit, part.some)) in
    rw same (fit_from board (grant_cost b most).0 s.start (few_where_not_full board part.room)
    (idle_fewer board.cells part.slots (grant_cost b most).0 s.start part.idle (omega (arith, within_long b most, carries))))

pub spot_fits : (b : ChannelBursts) (header share : ℕ) (board : Board) (s : Spot) → spot b header share board ≡ Some s →
    fits board (grant_cost b (s.credit + header)).0 s.start ≡ true
spot_fits b header share board s found = elim (spot_cases b header share board s found) [
  | inl whole ↦ whole_fits b header share board s whole
  | inr part ↦ part_fits b header share board s part
]

-- What it credits is a byte at least, and no more than the share: a run that carries more would have room for all of it.

pub record IsSpot (b : ChannelBursts) (header share : ℕ) (board : Board) (s : Spot) : Type 0 where
  pub some : 1 ≤ s.credit
  pub few : s.credit ≤ share
  pub fits : fits board (grant_cost b (s.credit + header)).0 s.start ≡ true

part_few : (b : ChannelBursts) (header share : ℕ) (board : Board) (s : Spot) → IsChannelBursts b →
    IsPart b header share board s → s.credit ≤ share
part_few b header share board s is part = elim (cases_lt share s.credit) [
  | inr less ↦ less
  | inl more ↦
      let most : ℕ = capacity_of b.time b.long part.slots in
      let cost : ℕ = (grant_cost b (share + header)).0 in
      let carries : burst_cost b.time b.long most ≤ part.slots =
      capacity_fits b.time b.long part.slots (omega (arith, part.credit, part.some)) in
      let falls : burst_cost b.time b.long (share + header) ≤ burst_cost b.time b.long most =
      burst_cost-mono b.time b.long (share + header) most is.long (omega (arith, part.credit, more)) in
      let inside : s.start + part.slots ≤ length board.cells =
      idle_inside board.cells part.slots s.start part.idle in
      let here : fits board cost s.start ≡ true = fit_from board cost s.start (few_where_not_full board part.room)
      (idle_fewer board.cells part.slots cost s.start part.idle
      (omega (arith, within_long b (share + header), falls, carries))) in
      let nowhere : fits board cost s.start ≡ false = none_passes (fits board cost) 0
      (length board.cells - 1 + 1 - 0) s.start part.none (omega arith) (omega (arith, inside, part.long)) in
      let no : true ≡ false = sym here ∙ nowhere in
      absurd cc
]

pub spot_is : (b : ChannelBursts) (header share : ℕ) (board : Board) (s : Spot) → IsChannelBursts b → 1 ≤ share →
    spot b header share board ≡ Some s → IsSpot b header share board s
spot_is b header share board s is some found = elim (spot_cases b header share board s found) [
  | inl whole ↦ record {
    some = omega (arith, whole.credit, some);
    few = omega (arith, whole.credit);
    fits = whole_fits b header share board s whole;
  }
  | inr part ↦ record {
    some = part.some;
    few = part_few b header share board s is part;
    fits = part_fits b header share board s part;
  }
]
