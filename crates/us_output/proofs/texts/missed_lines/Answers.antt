use Rattle.std.proofs.Common.{length, ap, arith}
use Rattle.us_output.proofs.TextLemmas.{counted}
use Rattle.us_output.proofs.texts.missed_lines.Goals as goal

pub overflow_sub-result : goal.overflow_sub-result
overflow_sub-result c =
    let all = counted 0 c.args.part.now c.requires.inside in
    omega (arith, all.all, c.requires.granted, ap length c.grants.ensures.value, ap length c.settled.ensures, ap (λ b. length b.grants) c.channel_round-part.ensures, ap (λ b. length b.settled) c.channel_round-part.ensures)

pub returns : goal.returns
returns c =
    let all = counted 0 c.args.part.now c.requires.inside in
    omega (arith, all.all, c.requires.granted, ap length c.grants.ensures.value, ap length c.settled.ensures, ap (λ b. length b.grants) c.channel_round-part.ensures, ap (λ b. length b.settled) c.channel_round-part.ensures)
