use Rattle.std.proofs.Common.{◌∙◌, arith}
use Rattle.us_calendar.proofs.NotedLemmas.{came_here, came_from}
use Rattle.us_calendar.proofs.agendas.bring.Goals as goal

pub note-requires : goal.note-requires
note-requires c = c.loop-place.invariant.inside c.args.round c.in-Some.place c.in-Some.ensures.there

pub loop-place-preserved : goal.loop-place-preserved
loop-place-preserved c =
    let l = c.loop-place in
    let from = came_from l.near c.note.new.self l.far c.take.new.self c.args.round c.in-Some.place c.note.ensures
    c.in-Some.ensures.taken c.in-Some.ensures.there in
    record {
      late = λ r q is. l.invariant.late r q (from r q is);
      inside = λ r q is. let low = l.invariant.inside r q (from r q is) in omega (arith, low, c.note.ensures.many);
      here = λ q. came_here l.near c.note.new.self l.far c.take.new.self c.args.round c.in-Some.place c.note.ensures
          c.in-Some.ensures.taken c.in-Some.ensures.there q ∙ l.invariant.here q;
      others = λ r q apart. c.note.ensures.others r q (λ e _. apart e) ∙ l.invariant.others r q apart;
      far_others = λ r q apart. c.in-Some.ensures.taken.others r q (λ e _. apart e) ∙ l.invariant.far_others r q apart;
      many = c.note.ensures.many ∙ l.invariant.many;
    }
