use Rattle.std.proofs.Common.{arith}
use Rattle.us_map_rules.proofs.gathered.MapRegions.close_until.Goals as goal

pub loop-self-preserved : goal.loop-self-preserved
loop-self-preserved c = record {
  up = λ up. omega (arith, c.in_ok-close.ensures.number, c.loop-self-test.true);
  told = λ rounds maps placed within told.
      c.in_ok-close.ensures.told rounds maps placed (omega (arith, c.loop-self-test.true, within))
      (c.loop-self.invariant.told rounds maps placed within told);
}
