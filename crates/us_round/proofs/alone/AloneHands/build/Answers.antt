use Rattle.std.proofs.Common.{ap, sym, subst, ◌∙◌, arith}
use Rattle.std.specs.List.{AllByRecursion}
use Rattle.us_split.specs.Claims.{IsClaimOn}
use Rattle.us_channel.specs.Channels.{build_on, filled_part}
use Rattle.us_round.specs.Hands.{built_at}
use Rattle.us_round.proofs.PhaseLemmas.{next_at, done_more, done_all}
use Rattle.us_round.proofs.alone.AloneHands.build.Goals as goal

pub place_claims-requires : goal.place_claims-requires
place_claims-requires g c =
    subst (AllByRecursion (IsClaimOn c.index_mut.result.now.channel)) (sym c.claims.ensures)
    (c.requires.claims c.loop-place.place c.index_mut.result.now
    (next_at (built_at c.args.work.now) c.loop-place.place c.args.channels.items c.loop-place.channels.items
    c.index_mut.result.now c.loop-place.invariant
    (omega (arith, c.loop-place-test.true, c.len-place-end.ensures, c.args.channels.ok.0)) c.index_mut.ensures.value) c.enter.ensures)

pub loop-place-preserved : goal.loop-place-preserved
loop-place-preserved g c =
    done_more (built_at c.args.work.now) c.loop-place.place c.args.channels.items c.loop-place.channels.items
    c.index_mut.result.now c.place_claims.new.self c.loop-place.invariant
    (next_at (built_at c.args.work.now) c.loop-place.place c.args.channels.items c.loop-place.channels.items
    c.index_mut.result.now c.loop-place.invariant
    (omega (arith, c.loop-place-test.true, c.len-place-end.ensures, c.args.channels.ok.0)) c.index_mut.ensures.value)
    (c.place_claims.ensures.value ∙ ap (λ cs. build_on cs (filled_part c.index_mut.result.now)) c.claims.ensures)

pub returns-clause-value : goal.returns-clause-value
returns-clause-value g c =
    done_all (built_at c.args.work.now) c.loop-place.place c.args.channels.items c.loop-place.channels.items
    c.loop-place.invariant (omega (arith, c.loop-place-test.false, c.len-place-end.ensures, c.args.channels.ok.0))
