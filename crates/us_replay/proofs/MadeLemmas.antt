-- A round that was made, and its texts.
use Rattle.std.proofs.Common.{◌≡◌, ℕ, ◌+◌, ◌*◌, ◌^◌, ◌<◌, ◌≤◌, List, length, ap, subst, ◌∙◌, arith}
use Rattle.std.specs.List.{AllByRecursion}
use Rattle.us_holes.specs.Boards.{max_assignments}
use Rattle.us_requests.specs.declared.asks.Ask.{Ask}
use Rattle.us_round.specs.Rounds.{State, RoundResult, round_of}
use Rattle.us_round.specs.States.{settled_by, max_settled_by}
use Rattle.us_output.specs.Outputs.{AreWithinLimits, out_of}
use Rattle.us_output.specs.Lines.{HasFields}
use Rattle.us_replay.specs.Progress.{Progress, AreFewBefore, CanMake, HasRoom, IsMade, out_after, step_of, with_asks, with_round}
use Rattle.us_replay.proofs.RoundLemmas.{after}

-- where no MAP passes its limits, there are few lines beside those of what was settled
abbrev pub HasFew : State → RoundResult → Type 0
HasFew state made = AreWithinLimits state.tables made.scheduled →
    length (out_of state.tables made.scheduled).rows + settled_by state ≤
    max_assignments * length state.tables.channels + settled_by made.state

module _ (state : State) (cut : List ℕ) (made : RoundResult) (is : made ≡ round_of state cut) where
  tables-same : made.state.tables ≡ state.tables
  tables-same = ap (λ m. m.state.tables) is ∙ (after state cut).tables_are

  within-same : AreWithinLimits made.state.tables made.scheduled → AreWithinLimits state.tables made.scheduled
  within-same within = subst (λ t. AreWithinLimits t made.scheduled) tables-same within

  rows-same : length (out_of made.state.tables made.scheduled).rows ≡ length (out_of state.tables made.scheduled).rows
  rows-same = ap (λ t. length (out_of t made.scheduled).rows) tables-same

  pub room-for : (p q : Progress) (asks : List Ask) → CanMake state p asks → q ≡ with_asks p asks → HasFew state made →
      made.state.round < 2 ^ 32 → settled_by made.state ≤ max_settled_by →
      AreWithinLimits made.state.tables made.scheduled →
      HasRoom q (length (out_of made.state.tables made.scheduled).rows)
  room-for p q asks ready collected few rounds most within =
      rw (collected, rows-same) (record { granted = room p.granted ready.few_granted; missed = room p.missed ready.few_missed })
    where
      room : (lines : ℕ) → AreFewBefore state lines → lines + length (out_of state.tables made.scheduled).rows < 2 ^ 64
      room lines before =
          let round : made.state.round ≡ state.round + 1 = ap (λ m. m.state.round) is ∙ (after state cut).round_is in
          omega (arith, before, ready.lawful.some_channels.1, few (within-same within), rows-same, round, rounds, most)

  pub is-made : (p q r : Progress) (asks : List Ask) (next : State) → CanMake state p asks → q ≡ with_asks p asks →
      cut ≡ q.cut → HasFew state made → r ≡ with_round q (out_of made.state.tables made.scheduled) →
      AreWithinLimits made.state.tables made.scheduled →
      AllByRecursion HasFields (out_of made.state.tables made.scheduled).rows → next ≡ made.state →
      IsMade state p asks next r
  is-made p q r asks next ready collected cut_is few taken within fields next_is =
      let same : made ≡ step_of state p asks = is ∙ ap (round_of state) (cut_is ∙ ap (λ p. p.cut) collected) in
      let out : out_of made.state.tables made.scheduled ≡ out_after state p asks =
      ap (λ t. out_of t made.scheduled) tables-same ∙ ap (λ m. out_of state.tables m.scheduled) same in
      let lines = few (within-same within) in record {
        state_is = next_is ∙ ap (λ m. m.state) same;
        progress_is = taken ∙ ap (with_round q) out ∙ ap (λ before. with_round before (out_after state p asks)) collected;
        limits = subst (AreWithinLimits state.tables) (ap (λ m. m.scheduled) same) (within-same within);
        few = omega (
          arith,
          ready.lawful.some_channels.1,
          lines,
          ap (λ m. length (out_of state.tables m.scheduled).rows) same,
          ap settled_by next_is,
        );
        fields = subst (λ o. AllByRecursion HasFields o.rows) out fields;
      }
