use Rattle.std.proofs.Common.{[], ◌∷◌, map, ap, ap₂, sym, ◌∙◌}
use Rattle.us_calendar.specs.Entries.{slots_of, owner_of}
use Rattle.us_calendar.specs.Settling.{settlement, told_as}
use Rattle.us_calendar.specs.declared.settled.Settled.TheVariants as told
use Rattle.us_calendar.specs.Kept.{number_of}
use Rattle.us_calendar.proofs.TimedLemmas.{interval_is, place_is}
use Rattle.us_calendar.proofs.settling.told.Goals as goal

pub returns-in-Some-clause-some : goal.returns-in-Some-clause-some
returns-in-Some-clause-some c =
    let e = c.args.entry.now in
    let next = c.args.next in
    ap (λ found. map (told_as e)
    (settlement c.args.span.now.pace c.args.span.now.round e c.args.active (number_of e next) found)) c.in-Some.is ∙
    ap₂ (λ i k. told.Granted e.kind e.id i k c.in-Some.start (slots_of e c.args.active) (owner_of e c.args.active) ∷ [])
    (interval_is e next c.requires.timed) (place_is e next c.requires.timed) ∙
    ap₂ (λ slots owner. told.Granted e.kind e.id next.i next.k c.in-Some.start slots owner ∷ [])
    (sym c.slots_of.ensures.value) (sym c.owner_of.ensures) ∙
    ap (λ d. told.Granted d.kind d.id next.i next.k c.in-Some.start c.slots_of.result c.owner_of.result ∷ [])
    (sym c.entry.view_is)
