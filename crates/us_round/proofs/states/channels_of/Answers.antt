use Rattle.std.proofs.Common.{◌++◌, ◌∷◌, [], length, ap, ◌∙◌, arith}
use Rattle.us_channel.specs.Channels.{opening}
use Rattle.us_round.proofs.CalendarLemmas.{mapped_more}
use Rattle.us_round.proofs.states.channels_of.Goals as goal

pub loop-place-preserved : goal.loop-place-preserved
loop-place-preserved c =
    c.in_ok-push.ensures.items ∙ ap (λ xs. xs ++ c.in_ok-channel.channel ∷ []) c.loop-place.invariant
    ∙ mapped_more (opening c.args.config.now) c.args.config.now.channels c.loop-place.place c.in_ok-channel.channel
    (omega (arith, c.loop-place-test.true, ap length c.channels-channels.ensures.value)) c.in_ok-channel.ensures
