use Rattle.std.proofs.Common.{◌≡◌, ◌-◌, ◌^◌, ◌≤◌, ◌⊎◌}
use Rattle.us_calendar.specs.Kept.{IsTimed, number_of, speaks_of}
use Rattle.us_calendar.proofs.SettleLemmas.{Reached}
use Rattle.us_calendar.proofs.settling.settle.Given as goal

-- what is settled, and what is left to settle, lead to the same
abbrev pub invariant-loop-next : goal.invariant-loop-next
invariant-loop-next l = record {
  timed : IsTimed l.entry l.next;
  begins : l.span.end ≤ l.next.ideal → (l.next ≡ l.fn.first) ⊎ (l.next.k ≡ 0);
  reached :
      Reached l.span.pace l.span.round l.entry (speaks_of l.kinds) (number_of l.entry l.fn.first) l.fn.board
      l.fn.settled.items (number_of l.entry l.next) l.board l.settled.items;
}

abbrev pub decreases-loop-next : goal.decreases-loop-next
decreases-loop-next l = 2 ^ 38 - number_of l.entry l.next
