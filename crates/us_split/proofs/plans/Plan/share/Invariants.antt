use Rattle.std.proofs.Common.{◌≡◌, drop}
use Rattle.us_split.specs.Claims.{share_of}
use Rattle.us_split.proofs.plans.Plan.share.Given as goal

-- the claim isn't among those of the channels before
abbrev pub invariant-loop-channel : goal.invariant-loop-channel
invariant-loop-channel l = share_of (drop l.channel-index l.self.claims) l.turn l.position ≡ share_of l.self.claims l.turn l.position
