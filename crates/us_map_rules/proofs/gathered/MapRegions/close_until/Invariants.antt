use Rattle.std.proofs.Common.{ℕ, List, ◌-◌, ◌*◌, ◌≤◌, length}
use Rattle.us_lawful.specs.Runs.{RoundMap}
use Rattle.us_map_rules.specs.RegionLines.{PlacedRegion}
use Rattle.us_map_rules.specs.Gathered.{IsStateOf}
use Rattle.us_map_rules.proofs.gathered.MapRegions.close_until.Given as goal

abbrev pub invariant-loop-self : goal.invariant-loop-self
invariant-loop-self l = record {
  up : l.fn.self.number ≤ l.number → l.self.number ≤ l.number;
  told : (rounds : ℕ) (maps : List RoundMap) (placed : List PlacedRegion) → l.number ≤ rounds * length l.config.channels →
      IsStateOf l.config rounds l.file maps placed l.fn.self → IsStateOf l.config rounds l.file maps placed l.self;
}

abbrev pub decreases-loop-self : goal.decreases-loop-self
decreases-loop-self l = l.number - l.self.number
