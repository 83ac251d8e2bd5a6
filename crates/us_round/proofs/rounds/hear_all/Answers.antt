use Rattle.std.proofs.Common.{ℕ, ap, sym, ◌∙◌, arith}
use Rattle.us_channel.specs.Channels.{Built, heard}
use Rattle.us_round.proofs.PhaseLemmas.{done_all, done_more, next_at, values_are}
use Rattle.us_round.proofs.rounds.hear_all.Goals as goal

pub loop-channel-preserved : goal.loop-channel-preserved
loop-channel-preserved c =
    let value = λ (place : ℕ) (b : Built). heard c.args.cuts.now b in
    let l = c.loop-channel in
    let b = c.channel-item.result in
    done_more value l.channel-index c.args.channels.now l.channels b c.hear.new.self l.invariant
    (next_at value l.channel-index c.args.channels.now l.channels b l.invariant
    (omega (arith, c.loop-channel-test.true)) c.channel-item.is)
    (c.hear.ensures ∙ ap (heard c.args.cuts.now) (sym c.channel-item.is))

pub returns : goal.returns
returns c =
    let value = λ (place : ℕ) (b : Built). heard c.args.cuts.now b in
    let l = c.loop-channel in
    done_all value l.channel-index c.args.channels.now l.channels l.invariant (omega (arith, c.loop-channel-test.false))
    ∙ values_are (heard c.args.cuts.now) 0 c.args.channels.now
