use Rattle.std.proofs.Common.{◌≡◌, ◌++◌, [], drop, ap, sym, ◌∙◌, append-nil, arith}
use Rattle.std.specs.Prelude.{count_by, flat_map}
use Rattle.std.specs.List.{AllByRecursion}
use Rattle.std.proofs.lemmas.List.{drop_all}
use Rattle.us_output.specs.Files.{is_granted, is_missed, lines}
use Rattle.us_output.specs.Leftovers.{AreInside}
use Rattle.us_output.specs.Lines.{HasFields}
use Rattle.us_output.specs.Outputs.{rows_on}
use Rattle.us_output.proofs.PartLemmas.{all_flat}
use Rattle.us_output.proofs.TextLemmas.{all_next, lines_flat, next_all, next_count, next_part, room_left}
use Rattle.us_output.proofs.texts.push_lines.Goals as goal

pub push_part-requires : goal.push_part-requires
push_part-requires c =
    let channels = c.args.channels.now in
    let inv = c.loop-part.invariant in
    let i = c.loop-part.part-index in
    let b = c.part-item.result in
    record {
      inside = (next_all AreInside channels i b _ c.loop-part-test.true c.part-item.is inv.2).0;
      granted_room = (room_left is_granted c.args.round channels i b _ c.loop-part.tally.granted c.loop-part-test.true c.part-item.is inv.5).0;
      missed_room = (room_left is_missed c.args.round channels i b _ c.loop-part.tally.missed c.loop-part-test.true c.part-item.is inv.6).0;
    }

pub loop-part-preserved : goal.loop-part-preserved
loop-part-preserved c =
    let round = c.args.round in
    let channels = c.args.channels.now in
    let inv = c.loop-part.invariant in
    let i = c.loop-part.part-index in
    let b = c.part-item.result in
    let put = c.in_ok-push_part.ensures in (
      next_part (λ part. lines (rows_on round part)) channels i b _ c.loop-part.text.items c.push_part.new.text.items _ c.loop-part-test.true
          c.part-item.is inv.0 put.lines,
      all_next (λ part. AllByRecursion HasFields (rows_on round part)) channels i b _ c.loop-part-test.true c.part-item.is
          inv.1 put.fields,
      (next_all AreInside channels i b _ c.loop-part-test.true c.part-item.is inv.2).1,
      next_count is_granted round channels i b _ c.loop-part.tally.granted c.push_part.new.tally.granted _
          c.loop-part-test.true c.part-item.is inv.3 put.granted,
      next_count is_missed round channels i b _ c.loop-part.tally.missed c.push_part.new.tally.missed _
          c.loop-part-test.true c.part-item.is inv.4 put.missed,
      (room_left is_granted round channels i b _ c.loop-part.tally.granted c.loop-part-test.true c.part-item.is inv.5).1
          c.push_part.new.tally.granted put.granted,
      (room_left is_missed round channels i b _ c.loop-part.tally.missed c.loop-part-test.true c.part-item.is inv.6).1
          c.push_part.new.tally.missed put.missed,
    )

pub returns-clause-lines : goal.returns-clause-lines
returns-clause-lines c =
    let channels = c.args.channels.now in
    let none : drop c.loop-part.part-index channels ≡ [] = drop_all c.loop-part.part-index channels c.loop-part-test.false in
    sym (append-nil c.loop-part.text.items) ∙ rw none at c.loop-part.invariant.0 ∙
    ap (λ text. c.args.text.now.items ++ text) (lines_flat c.args.round channels)

pub returns-clause-fields : goal.returns-clause-fields
returns-clause-fields c =
    let channels = c.args.channels.now in
    let none : drop c.loop-part.part-index channels ≡ [] = drop_all c.loop-part.part-index channels c.loop-part-test.false in
    all_flat HasFields (rows_on c.args.round) channels ((rw none at c.loop-part.invariant.1) tt)

pub returns-clause-granted : goal.returns-clause-granted
returns-clause-granted c =
    let channels = c.args.channels.now in
    let none : drop c.loop-part.part-index channels ≡ [] = drop_all c.loop-part.part-index channels c.loop-part-test.false in
    omega (arith, c.loop-part.invariant.3, ap (λ left. count_by is_granted (flat_map (rows_on c.args.round) left)) none)

pub returns-clause-missed : goal.returns-clause-missed
returns-clause-missed c =
    let channels = c.args.channels.now in
    let none : drop c.loop-part.part-index channels ≡ [] = drop_all c.loop-part.part-index channels c.loop-part-test.false in
    omega (arith, c.loop-part.invariant.4, ap (λ left. count_by is_missed (flat_map (rows_on c.args.round) left)) none)
