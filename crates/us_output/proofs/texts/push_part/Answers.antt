use Rattle.std.proofs.Common.{◌++◌, ap, sym, subst, append-nil, ◌∙◌, arith}
use Rattle.std.specs.Prelude.{count_by}
use Rattle.std.specs.List.{AllByRecursion}
use Rattle.us_output.specs.Files.{lines, is_granted, is_missed}
use Rattle.us_output.specs.Lines.{HasFields}
use Rattle.us_output.proofs.TextLemmas.{counted, quiet_rows}
use Rattle.us_output.proofs.texts.push_part.Goals as goal

pub returns-then-is_quiet-clause-lines : goal.returns-then-is_quiet-clause-lines
unfolding lines
returns-then-is_quiet-clause-lines c =
    sym (ap (λ rows. c.args.text.now.items ++ lines rows) (quiet_rows c.args.round c.args.part.now c.requires.inside c.if-is_quiet.ensures.0 c.if-is_quiet.ensures.1) ∙
    append-nil c.args.text.now.items)

pub returns-then-is_quiet-clause-fields : goal.returns-then-is_quiet-clause-fields
returns-then-is_quiet-clause-fields c =
    subst (AllByRecursion HasFields) (sym (quiet_rows c.args.round c.args.part.now c.requires.inside c.if-is_quiet.ensures.0 c.if-is_quiet.ensures.1)) tt

pub returns-then-is_quiet-clause-granted : goal.returns-then-is_quiet-clause-granted
returns-then-is_quiet-clause-granted c =
    omega (arith, ap (λ rows. count_by is_granted rows) (quiet_rows c.args.round c.args.part.now c.requires.inside c.if-is_quiet.ensures.0 c.if-is_quiet.ensures.1))

pub returns-then-is_quiet-clause-missed : goal.returns-then-is_quiet-clause-missed
returns-then-is_quiet-clause-missed c =
    omega (arith, ap (λ rows. count_by is_missed rows) (quiet_rows c.args.round c.args.part.now c.requires.inside c.if-is_quiet.ensures.0 c.if-is_quiet.ensures.1))

pub add-requires-clause-granted_room : goal.add-requires-clause-granted_room
add-requires-clause-granted_room c =
    let all = counted c.args.round c.args.part.now c.requires.inside in
    omega (arith, c.requires.granted_room, all.whole, all.all, c.in_ok-granted.ensures.granted)

pub add-requires-clause-missed_room : goal.add-requires-clause-missed_room
add-requires-clause-missed_room c =
    let all = counted c.args.round c.args.part.now c.requires.inside in
    omega (arith, c.requires.missed_room, all.whole, c.missed_lines.ensures)

pub returns-clause-granted : goal.returns-clause-granted
returns-clause-granted c =
    let all = counted c.args.round c.args.part.now c.requires.inside in
    omega (arith, c.add.ensures.granted, all.granted, c.in_ok-granted.ensures.granted)

pub returns-clause-missed : goal.returns-clause-missed
returns-clause-missed c =
    let all = counted c.args.round c.args.part.now c.requires.inside in
    omega (
      arith,
      c.add.ensures.missed,
      c.missed_lines.ensures,
      all.all,
      c.in_ok-granted.ensures.granted,
    )
