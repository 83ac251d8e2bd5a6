use Rattle.std.proofs.Common.{drop}
use Rattle.us_codec.specs.Faults.{elements_at}
use Rattle.us_lawful.specs.Regions.{element_regions}
use Rattle.us_map_rules.specs.Pieces.{pieces_from}
use Rattle.us_map_rules.proofs.FollowLemmas.{Follows}
use Rattle.us_map_rules.proofs.minislots.are_followed.Given as goal

-- if what is left follows, all of it does
abbrev pub invariant-loop-region : goal.invariant-loop-region
invariant-loop-region l =
    Follows l.channel l.len l.next.0.offset (drop l.region-index l.regions) (pieces_from l.next.0 l.next.1.now) →
    Follows l.channel l.len 0 l.regions (element_regions (elements_at l.elements))
