use Rattle.std.proofs.Common.{arith, ◌-◌, ◌<◌, length, take, length-take}
use Rattle.us_crew.proofs.TaskLemmas.{front_ready, back_ready, cut_tells}
use Rattle.us_crew.proofs.mapping.+in_parts.Goals as goal

pub put-requires : goal.put-requires
put-requires g t c = back_ready g.G.Gate.entered g.W.Work.accepts _ _ _ c.in_ok-last.ensures.cut c.requires

pub in_parts-front-requires : goal.in_parts-front-requires
in_parts-front-requires g t c κs within =
    let fewer : length (take (length c.args.lengths.now - 1) c.args.lengths.now) < t =
    omega (arith, c.decreases, c.if-lengths-lt2.false, length-take (length c.args.lengths.now - 1) c.args.lengths.now) in
    let ready = front_ready g.G.Gate.entered g.W.Work.accepts _ _ _ c.in_ok-last.ensures.cut c.requires in
    search (fewer, ready)

pub returns : goal.returns
returns g t c =
    cut_tells g.W.Work.value g.W.Work.may_fail g.W.Work.must_fail c.args.task c.cut_off.new.self c.in_ok-last.last _ _ _
    c.in_ok-last.ensures.cut c.in_parts-front.ensures (c.in-Some.ensures c.in_ok-last.last c.in_ok-pending.ensures) c.together.ensures
