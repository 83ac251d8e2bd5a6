use Rattle.std.proofs.Common.{rules, sym, subst}
use Rattle.us_codec.specs.Records.{IsMapsFile}
use Rattle.mapsim.proofs.DumpLemmas.{none-printed, printed-next, all-printed}
use Rattle.mapsim.proofs.dumps.print_maps.Goals as goal

pub loop-index-init : goal.loop-index-init
loop-index-init g c = (c.requires, none-printed _ _ _)

pub loop-index-preserved : goal.loop-index-preserved
loop-index-preserved g c = (
  search rules,
  printed-next _ _ c.loop-index.index _ c.in_ok-print_record.ensures.printed.0 _ _ _ c.loop-index-test.true
      c.loop-index.invariant.1 c.in_ok-print_record.ensures.printed.1 c.in_ok-print_record.ensures.printed.2,
)

pub returns-clause-printed : goal.returns-clause-printed
returns-clause-printed g c =
    all-printed _ _ _ _ _ c.loop-index.invariant.1
    (subst (IsMapsFile c.args.file.now) (sym c.deref-record-items.ensures.value) c.in-Ok.ensures.found) c.loop-index-test.false
