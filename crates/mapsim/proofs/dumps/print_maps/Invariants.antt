use Rattle.std.proofs.Common.{◌≡◌, false}
use Rattle.mapsim.proofs.DumpLemmas.{Printed}
use Rattle.mapsim.proofs.dumps.print_maps.Given as goal

abbrev pub invariant-loop-index : goal.invariant-loop-index
invariant-loop-index g l =
    (g.O.Sink.failed l.output ≡ false) ×
    Printed l.file l.record-items l.index (g.O.Sink.contents l.fn.output) (g.O.Sink.contents l.output)
