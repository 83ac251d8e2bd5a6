use Rattle.std.proofs.Common.{refl}
use Rattle.us_check.proofs.judging.judge_in_order.Goals as goal

pub take_in_order-requires : goal.take_in_order-requires
take_in_order-requires c =
    (c.requires.maps.0, c.in_ok-judge.ensures.told c.args.maps.now c.requires.maps.0 c.requires.maps.1)

pub returns-then-branch : goal.returns-then-branch
returns-then-branch c = λ ms is.
    let all = c.in_ok-take_in_order.ensures c.if-branch.true ms (c.in_ok-judge.ensures.told c.args.maps.now ms is) in
    record { lines = all.0; told = all.0; read = all.1; same = λ f. refl; judge = all.2 }
