use Rattle.std.proofs.Common.{get_or, subst, sym, ◌∙◌, arith}
use Rattle.std.proofs.lemmas.List.{get_or-set_other, length-set}
use Rattle.us_reports.proofs.BreachLemmas.{all_done, one_more}
use Rattle.us_map_rules.specs.Told.{IsTold, OccurrencesFail}
use Rattle.us_map_rules.proofs.ListedLemmas.{listed_among}
use Rattle.us_map_rules.proofs.calendar_lines.entries_breach.Goals as goal

pub breach-breach-requires : goal.breach-breach-requires
breach-breach-requires c =
    listed_among c.args.run.now.tables c.args.entries.now c.requires.listed c.index-entries-place.result
    (c.loop-place.place, c.loop-place-test.true, sym c.index-entries-place.is)

pub loop-place-preserved : goal.loop-place-preserved
loop-place-preserved c =
    let run = c.args.run.now in
    let es = c.args.entries.now in
    let i = c.loop-place.place in
    let l = c.index-entries-place.result in
    let t = c.index_mut.result.now in
    record {
      long = length-set c.loop-place.told.items i c.breach-breach.new.self ∙ c.loop-place.invariant.long;
      kept = λ k d low.
          get_or-set_other c.loop-place.told.items i k c.breach-breach.new.self d (λ is. omega arith)
          ∙ c.loop-place.invariant.kept k d (omega arith);
      first = λ lines told.
          let own : IsTold run lines l t =
          subst (λ m. IsTold run lines m t) (sym c.index-entries-place.is)
          (subst (IsTold run lines (get_or es i l))
          (sym (c.index_mut.ensures.value ∙ c.loop-place.invariant.kept i t (omega arith)))
          (told i l t c.loop-place-test.true)) in
          rw (c.earlier-first.ensures, c.channels.ensures) (
          one_more run.tables.channels (OccurrencesFail run lines) es i l l c.loop-place.first c.breach-breach.result
          c.loop-place-test.true c.index-entries-place.is (c.loop-place.invariant.first lines told)
          (c.breach-breach.ensures lines own));
    }

pub returns : goal.returns
returns c = record {
  long = c.loop-place.invariant.long;
  first = λ lines told.
      all_done c.args.run.now.tables.channels (OccurrencesFail c.args.run.now lines) c.args.entries.now
      c.loop-place.place c.loop-place.first c.loop-place-test.false (c.loop-place.invariant.first lines told);
}
