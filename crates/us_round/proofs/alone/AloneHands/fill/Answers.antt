use Rattle.std.proofs.Common.{arith}
use Rattle.us_round.specs.Hands.{filled_at}
use Rattle.us_round.proofs.PhaseLemmas.{next_at, done_more, done_all}
use Rattle.us_round.proofs.alone.AloneHands.fill.Goals as goal

pub fill-requires-clause-channel : goal.fill-requires-clause-channel
fill-requires-clause-channel g c =
    (c.requires.ready c.loop-place.place c.index_mut.result.now
    (next_at (filled_at c.args.work.now) c.loop-place.place c.args.channels.items c.loop-place.channels.items
    c.index_mut.result.now c.loop-place.invariant
    (omega (arith, c.loop-place-test.true, c.len-place-end.ensures, c.args.channels.ok.0)) c.index_mut.ensures.value) c.enter.ensures).channel

pub fill-requires-clause-pace : goal.fill-requires-clause-pace
fill-requires-clause-pace g c =
    (c.requires.ready c.loop-place.place c.index_mut.result.now
    (next_at (filled_at c.args.work.now) c.loop-place.place c.args.channels.items c.loop-place.channels.items
    c.index_mut.result.now c.loop-place.invariant
    (omega (arith, c.loop-place-test.true, c.len-place-end.ensures, c.args.channels.ok.0)) c.index_mut.ensures.value) c.enter.ensures).pace

pub fill-requires-clause-next : goal.fill-requires-clause-next
fill-requires-clause-next g c =
    (c.requires.ready c.loop-place.place c.index_mut.result.now
    (next_at (filled_at c.args.work.now) c.loop-place.place c.args.channels.items c.loop-place.channels.items
    c.index_mut.result.now c.loop-place.invariant
    (omega (arith, c.loop-place-test.true, c.len-place-end.ensures, c.args.channels.ok.0)) c.index_mut.ensures.value) c.enter.ensures).next

pub fill-requires-clause-time : goal.fill-requires-clause-time
fill-requires-clause-time g c =
    (c.requires.ready c.loop-place.place c.index_mut.result.now
    (next_at (filled_at c.args.work.now) c.loop-place.place c.args.channels.items c.loop-place.channels.items
    c.index_mut.result.now c.loop-place.invariant
    (omega (arith, c.loop-place-test.true, c.len-place-end.ensures, c.args.channels.ok.0)) c.index_mut.ensures.value) c.enter.ensures).time

pub loop-place-preserved : goal.loop-place-preserved
loop-place-preserved g c =
    done_more (filled_at c.args.work.now) c.loop-place.place c.args.channels.items c.loop-place.channels.items
    c.index_mut.result.now c.fill.new.self c.loop-place.invariant
    (next_at (filled_at c.args.work.now) c.loop-place.place c.args.channels.items c.loop-place.channels.items
    c.index_mut.result.now c.loop-place.invariant
    (omega (arith, c.loop-place-test.true, c.len-place-end.ensures, c.args.channels.ok.0)) c.index_mut.ensures.value)
    c.in_ok-fill.ensures.value

pub returns-clause-value : goal.returns-clause-value
returns-clause-value g c =
    done_all (filled_at c.args.work.now) c.loop-place.place c.args.channels.items c.loop-place.channels.items
    c.loop-place.invariant (omega (arith, c.loop-place-test.false, c.len-place-end.ensures, c.args.channels.ok.0))
