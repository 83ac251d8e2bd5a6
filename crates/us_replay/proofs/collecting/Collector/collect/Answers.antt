use Rattle.std.proofs.Common.{length, option_map, ap, sym, ◌∙◌}
use Rattle.std.proofs.lemmas.Bool.{eqb-true}
use Rattle.us_replay.specs.Collecting.{with_asks}
use Rattle.us_replay.proofs.SettledLemmas.{asks-here, due-here, empty-round, given-up, next-round}
use Rattle.us_replay.proofs.collecting.Collector.collect.Goals as goal

pub returns-then-is_empty-clause-collected : goal.returns-then-is_empty-clause-collected
returns-then-is_empty-clause-collected g c =
    empty-round c.self.inside.cut.items c.clear.new.cut.items _ c.args.asks.now
    (eqb-true (length c.args.asks.now) 0 (sym c.if-is_empty.ensures)) c.clear.ensures
    ∙ ap (λ collector. with_asks collector c.args.asks.now) c.self.view_is

pub invariant_of-self-in_default : goal.invariant_of-self-in_default
invariant_of-self-in_default g c =
    given-up c.self.inside.cut.items c.clear.new.cut.items _ c.take.new.self c.args.asks.now c.take.ensures.after
    (asks-here _ c.args.self.now c.args.asks.now c.self.view_is c.requires.asks) c.clear.ensures

pub invariant_of-self-in_err-seat : goal.invariant_of-self-in_err-seat
invariant_of-self-in_err-seat g c =
    given-up c.self.inside.cut.items c.clear.new.cut.items _ c.take.new.self c.args.asks.now c.take.ensures.after
    (asks-here _ c.args.self.now c.args.asks.now c.self.view_is c.requires.asks) c.clear.ensures

pub take_asked-requires-clause-due : goal.take_asked-requires-clause-due
take_asked-requires-clause-due g c =
    due-here c.self.inside.cut.items _ c.self.inside.seat c.in-Some-Some.intake.now c.in-Some-Some.seat c.in_ok-seat.seat
    c.args.asks.now c.self.invariant.0 (ap (option_map (λ i. i.now)) c.in-Some-Some.is-0) (sym c.in-Some-Some.ensures.value)
    c.in_ok-seat.ensures.seat (asks-here _ c.args.self.now c.args.asks.now c.self.view_is c.requires.asks)

pub invariant_of-self-2 : goal.invariant_of-self-2
invariant_of-self-2 g c =
    let next =
    next-round c.self.inside.cut.items _ c.self.inside.seat c.in-Some-Some.intake.now c.in-Some-Some.seat c.in_ok-seat.seat
    c.args.asks.now c.self.invariant.0 (ap (option_map (λ i. i.now)) c.in-Some-Some.is-0) (sym c.in-Some-Some.ensures.value)
    c.in_ok-seat.ensures.seat (asks-here _ c.args.self.now c.args.asks.now c.self.view_is c.requires.asks)
    c.take_asked.new.seat c.take_asked.new.cut.items c.take_asked.ensures.seat c.take_asked.ensures.cut in
    (next.settled, next.told)

pub returns-clause-collected : goal.returns-clause-collected
returns-clause-collected g c =
    let next =
    next-round c.self.inside.cut.items _ c.self.inside.seat c.in-Some-Some.intake.now c.in-Some-Some.seat c.in_ok-seat.seat
    c.args.asks.now c.self.invariant.0 (ap (option_map (λ i. i.now)) c.in-Some-Some.is-0) (sym c.in-Some-Some.ensures.value)
    c.in_ok-seat.ensures.seat (asks-here _ c.args.self.now c.args.asks.now c.self.view_is c.requires.asks)
    c.take_asked.new.seat c.take_asked.new.cut.items c.take_asked.ensures.seat c.take_asked.ensures.cut in
    next.value ∙ ap (λ collector. with_asks collector c.args.asks.now) c.self.view_is
