use Rattle.std.proofs.Common.{arith, map}
use Rattle.us_calendar.specs.Entries.{entries}
use Rattle.us_map_rules.proofs.ListedLemmas.{channels_more}
use Rattle.us_map_rules.proofs.listed.all_entries.Goals as goal

pub loop-channel-preserved : goal.loop-channel-preserved
loop-channel-preserved c = record {
  same = channels_more
      (λ channel. map (λ e. record { channel = channel; entry = e }) (entries c.args.config.now channel))
      c.channels-channel-items.result.now c.loop-channel.channel-index c.channel-item.result _ _ _
      c.loop-channel-test.true c.channel-item.is c.in_ok-push_entries.ensures.value c.loop-channel.invariant.same;
  few = omega (arith, c.in_ok-push_entries.ensures.few, c.loop-channel.invariant.few);
}
