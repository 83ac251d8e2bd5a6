use Rattle.std.proofs.Common.{◌≡◌, ◌-◌, length, None, refl, sym, append-nil}
use Rattle.std.proofs.lemmas.Option.{slice_get_past}
use Rattle.us_output.specs.Orders.{row_at}
use Rattle.us_output.proofs.telling.tell_spot.Goals as goal

-- nothing stands there
none : (g : _) (c : goal.In-None-get g) →
    row_at c.args.round c.args.channel.now c.args.settled.now c.args.grants.now c.args.spot ≡ None
none g c =
    let settled = c.args.settled.now in
    let at = c.args.spot.at in
    rw (slice_get_past settled at c.in-None.ensures.lookup.3, slice_get_past c.args.grants.now (at - length settled) c.in-None-get.ensures.lookup.3) refl

pub returns-in-None-get-clause-lines : goal.returns-in-None-get-clause-lines
returns-in-None-get-clause-lines g c = rw (none g c) (sym (append-nil (g.S.LineSink.taken c.args.sink.now)))

pub returns-in-None-get-clause-fields : goal.returns-in-None-get-clause-fields
returns-in-None-get-clause-fields g c = rw (none g c) tt
