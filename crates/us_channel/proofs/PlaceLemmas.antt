-- A grant that an idle run carries fits where the run starts, and is less than a share that fits nowhere.
use Rattle.std.proofs.Common.{◌≡◌, ℕ, ◌+◌, ◌-◌, ◌<◌, ◌≤◌, List, length, true, false, Option, sym, ◌∙◌, inl, inr, arith}
use Rattle.std.proofs.lemmas.Bool.{cases_lt}
use Rattle.us_slots.specs.Bursts.{ChannelBursts, IsChannelBursts, burst_cost, grant_cost}
use Rattle.us_slots.proofs.CostLemmas.{burst_cost-mono}
use Rattle.us_slots.proofs.CostLaws.{within_long}
use Rattle.us_slots.specs.Capacities.{IsCapacity}
use Rattle.us_holes.specs.Boards.{Holder, Board, is_idle_at, fits, IsFirstLongest}
use Rattle.us_holes.specs.Placements.{HasNoRoom}
use Rattle.us_channel.proofs.FitLemmas.{fit_from, few_where_not_full, idle_inside, idle_fewer}

-- what a run carries costs no more than the run
carried_cost : (b : ChannelBursts) (slots most header : ℕ) → IsCapacity (burst_cost b.time b.long) slots most →
    0 < most - header → (grant_cost b (most - header + header)).0 ≤ slots
carried_cost b slots most header capacity some =
    let same : most - header + header ≡ most = omega arith in
    rw same (elim capacity.fits [
      | inl fits ↦ omega (arith, fits, within_long b most)
      | inr empty ↦ absurd (omega (arith, empty.0))
    ])

pub carried_fits : (b : ChannelBursts) (board : Board) (start slots most header cost : ℕ) → HasNoRoom board 0 (length board.cells - 1) cost →
    IsFirstLongest board.cells start slots → IsCapacity (burst_cost b.time b.long) slots most → 0 < most - header →
    fits board (grant_cost b (most - header + header)).0 start ≡ true
carried_fits b board start slots most header cost room longest capacity some =
    fit_from board (grant_cost b (most - header + header)).0 start (few_where_not_full board room.few)
    (idle_fewer board.cells slots (grant_cost b (most - header + header)).0 start longest.idle
    (carried_cost b slots most header capacity some))

pub longest_inside : (cells : List (Option Holder)) (start slots : ℕ) → IsFirstLongest cells start slots →
    start < length cells
longest_inside cells start slots longest =
    omega (arith, idle_inside cells slots start longest.idle, longest.some)

-- Where a burst fits nowhere, the longest run is shorter than its cost, so it carries less.
pub carried_less : (b : ChannelBursts) (board : Board) (start slots most header share : ℕ) → IsChannelBursts b →
    HasNoRoom board 0 (length board.cells - 1) (grant_cost b (share + header)).0 →
    IsFirstLongest board.cells start slots → IsCapacity (burst_cost b.time b.long) slots most → 0 < most - header →
    most - header ≤ share
carried_less b board start slots most header share is room longest capacity some =
    elim (cases_lt share (most - header)) [
      | inr few ↦ few
      | inl more ↦
          let cost : ℕ = (grant_cost b (share + header)).0 in
          let carries : burst_cost b.time b.long most ≤ slots = elim capacity.fits [
            | inl carries ↦ carries
            | inr empty ↦ absurd (omega (arith, empty.0))
          ] in
          let falls : burst_cost b.time b.long (share + header) ≤ burst_cost b.time b.long most =
          burst_cost-mono b.time b.long (share + header) most is.long (omega arith) in
          let inside : start < length board.cells = longest_inside board.cells start slots longest in
          let here : is_idle_at board.cells cost start ≡ true =
          idle_fewer board.cells slots cost start longest.idle
          (omega (arith, within_long b (share + header), falls, carries)) in
          let no : true ≡ false = sym here ∙ room.none start (omega arith) (omega (arith, inside)) in
          absurd cc
    ]

pub ruleset carried_facts = (carried_fits, longest_inside)
