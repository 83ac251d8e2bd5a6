use Rattle.std.proofs.Common.{◌≡◌, take}
use Rattle.us_round.specs.Cores.{idle_of}
use Rattle.us_round.proofs.cores.allowing.note_idle.Given as goal

abbrev pub invariant-loop-channel : goal.invariant-loop-channel
invariant-loop-channel l = l.idle.items ≡ idle_of (take l.channel-index l.channels)
