use Rattle.std.proofs.Common.{◌≡◌, ℕ}
use Rattle.us_channel.specs.Channels.{Built, heard}
use Rattle.us_round.proofs.PhaseLemmas.{done_to}
use Rattle.us_round.proofs.rounds.hear_all.Given as goal

abbrev pub invariant-loop-channel : goal.invariant-loop-channel
invariant-loop-channel l = l.channels ≡ done_to (λ (place : ℕ) (b : Built). heard l.cuts b) l.channel-index l.fn.channels
