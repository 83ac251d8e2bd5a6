use Rattle.std.proofs.Common.{◌≡◌, ◌+◌, length, ap, sym, append-nil, arith}
use Rattle.us_output.specs.Orders.{ordered_spots}
use Rattle.us_output.proofs.TextLemmas.{none_missed}
use Rattle.us_output.proofs.telling.tell_missed.Goals as goal

pub returns-then-granted-settled-clause-lines : goal.returns-then-granted-settled-clause-lines
returns-then-granted-settled-clause-lines g c inside counted =
    let b = c.args.part.now in
    let whole : length b.settled + length b.grants ≡ length (ordered_spots b) =
    omega (arith, counted, c.if-granted-settled.true, ap length c.grants.ensures.value, ap length c.settled-settled.ensures) in
    rw (none_missed c.args.round b inside whole) (sym (append-nil (g.S.LineSink.taken c.args.sink.now)))

pub returns-then-granted-settled-clause-fields : goal.returns-then-granted-settled-clause-fields
returns-then-granted-settled-clause-fields g c inside counted =
    let b = c.args.part.now in
    let whole : length b.settled + length b.grants ≡ length (ordered_spots b) =
    omega (arith, counted, c.if-granted-settled.true, ap length c.grants.ensures.value, ap length c.settled-settled.ensures) in
    rw (none_missed c.args.round b inside whole) tt
