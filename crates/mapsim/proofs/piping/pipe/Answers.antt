use Rattle.mapsim.proofs.PrintoutLemmas.{prints}
use Rattle.mapsim.proofs.piping.pipe.Goals as goal

pub returns-clause-printed : goal.returns-clause-printed
returns-clause-printed g c =
    prints c.args.rounds (g.I.Source.remaining c.args.input.now) c.in_ok-text.text.items c.deref.result.now
    c.in_ok-texts.texts.maps.items c.deref-2.result.now c.in_ok-texts.texts.report.items c.deref-3.result.now
    _ _ _ c.print.result c.in_ok-text.ensures.value c.deref.ensures.value c.in_ok-texts.ensures.replayed
    c.deref-2.ensures.value c.in_ok-print_maps.ensures.printed c.deref-3.ensures.value c.print.ensures.ok
