use Rattle.std.proofs.Common.{drop, take}
use Rattle.std.specs.List.{AllByRecursion}
use Rattle.us_channel.specs.Channels.{IsBuilt}
use Rattle.us_round.specs.Cores.{IsCrediting}
use Rattle.us_round.specs.Rounds.{all_grants}
use Rattle.us_round.proofs.cores.crediting.credit_all.Given as goal

abbrev pub invariant-loop-channel : goal.invariant-loop-channel
invariant-loop-channel l =
    IsCrediting (all_grants (drop l.channel-index l.built)) (all_grants l.built) l.fn.askers l.askers l.fn.buckets l.buckets
    × AllByRecursion IsBuilt (take l.channel-index l.built)
