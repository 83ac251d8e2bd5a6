use Rattle.std.proofs.Common.{◌≡◌, drop, map}
use Rattle.us_split.specs.TurnRows.{partial_of, with_seconds}
use Rattle.us_split.proofs.row_plans.plan_seconds.Given as goal

-- the other turns are still to come
abbrev pub invariant-loop-i : goal.invariant-loop-i
invariant-loop-i l = record {
  planned : with_seconds l.rows l.outstanding (drop l.i l.askers) (drop l.i l.firsts) (partial_of l.channels l.allowances) ≡
      with_seconds l.rows l.outstanding l.askers l.firsts (partial_of l.fn.channels l.fn.allowances);
  kept : map (λ c. c.channel) l.channels ≡ map (λ c. c.channel) l.fn.channels;
}
