use Rattle.std.proofs.Common.{◌≡◌, drop, map}
use Rattle.us_split.specs.TurnRows.{partial_of, with_rows}
use Rattle.us_split.proofs.row_plans.plan_rows.Given as goal

-- the other turns are still to come
abbrev pub invariant-loop-place : goal.invariant-loop-place
invariant-loop-place l = record {
  planned : with_rows l.rows l.outstanding (drop l.place-index l.askers) (partial_of l.channels l.allowances) ≡
      with_rows l.rows l.outstanding l.askers (partial_of l.fn.channels l.fn.allowances);
  kept : map (λ c. c.channel) l.channels ≡ map (λ c. c.channel) l.fn.channels;
}
