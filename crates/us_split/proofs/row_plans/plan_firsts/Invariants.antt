use Rattle.std.proofs.Common.{◌≡◌, drop, length, map}
use Rattle.us_split.specs.TurnRows.{AreFirsts, no_firsts, partial_of, pass_of, with_firsts}
use Rattle.us_split.proofs.row_plans.plan_firsts.Given as goal

-- the other turns are still to come
abbrev pub invariant-loop-place : goal.invariant-loop-place
invariant-loop-place l = record {
  pass : with_firsts l.rows l.outstanding (drop l.place-index l.askers)
      (pass_of l.channels l.allowances l.reserves l.firsts.items) ≡
      with_firsts l.rows l.outstanding l.askers (no_firsts (partial_of l.fn.channels l.fn.allowances) l.fn.reserves);
  fit : AreFirsts l.rows l.askers l.firsts.items;
  one_each : length l.firsts.items ≡ l.place-index;
  kept : map (λ c. c.channel) l.channels ≡ map (λ c. c.channel) l.fn.channels;
}
