use Rattle.std.proofs.Common.{◌≡◌, [], take, map, vec_len}
use Rattle.us_split.proofs.planner.channels_of.Given as goal

-- the channels so far
abbrev pub invariant-loop-channel : goal.invariant-loop-channel
invariant-loop-channel l = record {
  count : vec_len l.channels ≡ l.channel-index;
  own : map (λ c. c.channel) l.channels.items ≡ take l.channel-index l.config.channels;
  claims : map (λ c. c.claims) l.channels.items ≡ map (λ c. []) (take l.channel-index l.config.channels);
}
