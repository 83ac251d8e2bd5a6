use Rattle.std.proofs.Common.{◌≡◌, ◌≤◌, List, [], ◌∷◌, length, slice_get, refl, ap, sym, ◌∙◌, arith}
use Rattle.std.specs.Prelude.{IfSome}
use Rattle.std.specs.List.{AllByRecursion}
use Rattle.us_flows.specs.declared.channels.Channel.{Channel}
use Rattle.us_flows.specs.Lawful.{AreTables, IsChannel}
use Rattle.us_flows.specs.Tables.{Tables, map_len}
use Rattle.us_channel.specs.Channels.{Built, opening}
use Rattle.us_output.proofs.tests.base.filled_of.Goals as goal

-- the first channel as it opens
first : (t : Tables) (b : Built) (channels : List Channel) → AllByRecursion (IsChannel t) channels → 1 ≤ length channels →
    IfSome (slice_get channels 0) (λ c. b ≡ opening t c) → (c : Channel) × IsChannel t c × (b ≡ opening t c)
first t b [] all some is = absurd (omega (arith, some))
first t b (c ∷ channels) all some is = (c, all.0, is)

opened : (t : Tables) (b : Built) → AreTables t → IfSome (slice_get t.channels 0) (λ c. b ≡ opening t c) →
    (c : Channel) × IsChannel t c × (b ≡ opening t c)
opened t b lawful is = first t b t.channels lawful.channels lawful.some_channels.0 is

pub fill-requires-clause-channel : goal.fill-requires-clause-channel
fill-requires-clause-channel c =
    let is = opened c.args.config.now c.in_ok-part.part c.channels.ensures.lawful c.in_ok-part.ensures in
    rw is.2 is.1

pub fill-requires-clause-pace : goal.fill-requires-clause-pace
fill-requires-clause-pace c = rw (opened c.args.config.now c.in_ok-part.part c.channels.ensures.lawful c.in_ok-part.ensures).2 refl

pub fill-requires-clause-next : goal.fill-requires-clause-next
fill-requires-clause-next c = rw (opened c.args.config.now c.in_ok-part.part c.channels.ensures.lawful c.in_ok-part.ensures).2 refl

pub returns-clause-built : goal.returns-clause-built
returns-clause-built c =
    let is = opened c.args.config.now c.in_ok-part.part c.channels.ensures.lawful c.in_ok-part.ensures in
    let ends = c.in_ok-fill.ensures in
    record {
      channel = rw (ends.channel, ap (λ b. b.channel) is.2) is.1;
      len = ends.len ∙ ap (map_len c.args.config.now) (sym ends.channel);
    }
