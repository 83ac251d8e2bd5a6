use Rattle.std.proofs.Common.{◌≡◌, take}
use Rattle.us_flows.proofs.listed.channels.Channels.copied.Given as goal

-- so many channels are copied
abbrev pub invariant-loop-channel : goal.invariant-loop-channel
invariant-loop-channel l = l.copy ≡ take l.channel-index l.channels
