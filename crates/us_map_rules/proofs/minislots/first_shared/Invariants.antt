use Rattle.std.proofs.Common.{◌≡◌, drop}
use Rattle.us_map_rules.specs.Minislots.{first_shared}
use Rattle.us_map_rules.proofs.minislots.first_shared.Given as goal

-- what is left shares what all of it does
abbrev pub invariant-loop-region : goal.invariant-loop-region
invariant-loop-region l = first_shared l.len l.end (drop l.region-index l.regions) ≡ first_shared l.len 0 l.regions
