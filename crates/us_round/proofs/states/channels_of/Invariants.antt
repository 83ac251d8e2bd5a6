use Rattle.std.proofs.Common.{◌≡◌, map, take}
use Rattle.us_channel.specs.Channels.{opening}
use Rattle.us_round.proofs.states.channels_of.Given as goal

abbrev pub invariant-loop-place : goal.invariant-loop-place
invariant-loop-place l = l.all.items ≡ map (opening l.config) (take l.place l.config.channels)
