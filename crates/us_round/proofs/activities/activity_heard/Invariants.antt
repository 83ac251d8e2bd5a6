use Rattle.std.proofs.Common.{◌≡◌, ◌==◌, drop}
use Rattle.std.specs.List.{find}
use Rattle.us_round.proofs.activities.activity_heard.Given as goal

abbrev pub invariant-loop-channel : goal.invariant-loop-channel
invariant-loop-channel l =
    find (λ b. b.channel.id == l.id) l.channels ≡ find (λ b. b.channel.id == l.id) (drop l.channel-index l.channels)
