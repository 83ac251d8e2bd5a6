use Rattle.std.proofs.Common.{◌≡◌, ◌++◌, [], drop, ap, sym, ◌∙◌, append-nil}
use Rattle.std.proofs.lemmas.List.{drop_all}
use Rattle.us_output.proofs.RecordLemmas.{records_are}
use Rattle.us_output.proofs.records.push_records.Goals as goal

pub returns-clause-records : goal.returns-clause-records
returns-clause-records c =
    let text = c.loop-part.text.items in
    let old = c.args.text.now.items in
    let channels = c.args.channels.now in
    let none : drop c.loop-part.part-index channels ≡ [] = drop_all c.loop-part.part-index channels c.loop-part-test.false in
    sym (append-nil text) ∙ rw none at c.loop-part.invariant.0 ∙
    ap (λ r. old ++ r) (records_are c.args.config.now c.args.round c.args.pendings.now channels)
