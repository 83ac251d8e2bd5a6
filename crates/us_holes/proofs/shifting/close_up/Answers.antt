use Rattle.std.proofs.Common.{◌≡◌, ◌+◌, ◌-◌, ◌<◌, ◌∙◌, suc, get_or, length, arith, rules}
use Rattle.us_holes.proofs.ShiftLemmas.{moved_down, last_removed}
use Rattle.us_holes.proofs.shifting.close_up.Goals as goal

pub loop-at-preserved : goal.loop-at-preserved
loop-at-preserved g c =
    let l = c.loop-at in
    let next : l.at + 1 ≡ suc l.at = omega arith in
    let inside : l.at + 1 < length l.list = search rules in
    let is : c.index-list-at.result ≡ get_or l.list (l.at + 1) c.index-list-at.result = search rules in
    let on = moved_down l.list l.at c.index-list-at.result (omega (arith, inside)) (rw next at is) in
    (search rules, search rules, rw next (on ∙ l.invariant.2))

pub returns : goal.returns
returns g c =
    let l = c.loop-at in
    let last : suc l.at ≡ length l.list = omega (arith, c.loop-at-test.false, l.invariant.0) in
    let at : length c.args.list.now - 1 ≡ l.at = omega (arith, last, l.invariant.1) in
    rw at (last_removed l.list l.at last ∙ l.invariant.2)
