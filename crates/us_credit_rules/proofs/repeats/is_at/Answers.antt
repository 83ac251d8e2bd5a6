use Rattle.std.proofs.Common.{◌≡◌, ap, sym, subst, ◌∙◌, arith}
use Rattle.std.specs.Prelude.{slice_get}
use Rattle.std.proofs.lemmas.Bool.{eqb-true}
use Rattle.us_flows.specs.declared.channels.Channel.{Channel}
use Rattle.us_flows.specs.Tables.{channel_with}
use Rattle.us_credit_rules.proofs.ChannelLemmas.{channel_at}
use Rattle.us_credit_rules.proofs.repeats.is_at.Goals as goal

pub returns : goal.returns
returns c = λ same.
    let channels = c.args.channels.now in
    let here = c.index-channels-place.result in
    subst (λ id. slice_get channels c.args.place ≡ channel_with channels id)
    (ap (λ (c : Channel). c.id) c.index-channels-place.is ∙ sym c.from.ensures ∙ eqb-true c.from.result c.args.id same)
    (channel_at channels c.args.place here c.requires (omega (arith, c.if-place-channels.false)) c.index-channels-place.is)
