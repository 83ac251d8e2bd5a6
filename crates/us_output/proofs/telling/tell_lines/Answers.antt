use Rattle.std.proofs.Common.{◌≡◌, ◌++◌, length, flat_map, ap, sym, subst, ◌∙◌, append_assoc, arith}
use Rattle.std.specs.List.{AllByRecursion}
use Rattle.std.proofs.lemmas.Grind.{flat_map-append}
use Rattle.us_output.specs.Lines.{HasFields}
use Rattle.us_output.specs.Orders.{missed_of, ordered_spots, rows_at}
use Rattle.us_output.proofs.PartLemmas.{all_append}
use Rattle.us_output.proofs.SpotLemmas.{rows_are}
use Rattle.us_output.proofs.telling.tell_lines.Goals as goal

pub returns-clause-lines : goal.returns-clause-lines
returns-clause-lines g c inside =
    let b = c.args.part.now in
    let made = g.S.LineSink.made in
    let old = g.S.LineSink.taken c.args.sink.now in
    let granted = rows_at c.args.round b.channel b.settled b.grants (ordered_spots b) in
    let missed = missed_of c.args.round b.channel b.settled in
    let counted : c.len.result ≡ length (ordered_spots b) =
    omega (arith, c.len.ensures, c.order_lines.new.order.spots.ok.0, ap length (c.in_ok-order_lines.ensures inside)) in
    let first : g.S.LineSink.taken c.tell_spots.new.sink ≡ old ++ flat_map made granted =
    rw (c.channel.ensures, c.settled.ensures, c.grants.ensures.value, c.deref.ensures.value, c.in_ok-order_lines.ensures inside) at c.in_ok-tell_spots.ensures.lines in
    c.in_ok-tell_missed.ensures.lines inside counted ∙ ap (λ taken. taken ++ flat_map made missed) first ∙
    append_assoc old (flat_map made granted) (flat_map made missed) ∙
    ap (λ taken. old ++ taken) (sym (flat_map-append made granted missed) ∙ ap (flat_map made) (sym (rows_are c.args.round b)))

pub returns-clause-fields : goal.returns-clause-fields
returns-clause-fields g c inside =
    let b = c.args.part.now in
    let granted = rows_at c.args.round b.channel b.settled b.grants (ordered_spots b) in
    let missed = missed_of c.args.round b.channel b.settled in
    let counted : c.len.result ≡ length (ordered_spots b) =
    omega (arith, c.len.ensures, c.order_lines.new.order.spots.ok.0, ap length (c.in_ok-order_lines.ensures inside)) in
    subst (λ rows. AllByRecursion HasFields rows) (sym (rows_are c.args.round b))
    (all_append HasFields granted missed
    (rw (c.channel.ensures, c.settled.ensures, c.grants.ensures.value, c.deref.ensures.value, c.in_ok-order_lines.ensures inside) at c.in_ok-tell_spots.ensures.fields)
    (c.in_ok-tell_missed.ensures.fields inside counted))
