use Rattle.std.proofs.Common.{◌∙◌, ◌<◌, ◌==◌, ◌||◌, inr, ap, ap₂, sym, subst, arith}
use Rattle.us_calendar.specs.Occurrences.{ideal, end_of}
use Rattle.us_calendar.specs.Kept.{number_of, speaks_of}
use Rattle.us_calendar.proofs.IdealLemmas.{windows}
use Rattle.us_calendar.proofs.TimedLemmas.{ideal_is, number_most, place_is}
use Rattle.us_calendar.proofs.SettleLemmas.{Waits, begins_later, reached-next, last_board, last_numbers, last_told, settle-waits, settle-none, stands, stands_told}
use Rattle.us_calendar.proofs.settling.settle.Goals as goal

pub loop-next-smaller : goal.loop-next-smaller
loop-next-smaller c =
    omega (arith, number_most c.args.entry.now c.loop-next.next c.loop-next.invariant.timed, c.after-next.ensures.number)

-- an occurrence that comes is the first of its interval where that is silent
pub after-next-requires-clause-begins : goal.after-next-requires-clause-begins
after-next-requires-clause-begins c =
    let next = c.loop-next.next in
    let timed = c.loop-next.invariant.timed in
    ap (λ active. active || (next.k == 0)) c.speaks-active.ensures ∙
    sym (ap₂ (λ t k. speaks_of c.args.kinds t || (k == 0)) (ideal_is c.args.entry.now next timed)
    (place_is c.args.entry.now next timed)) ∙ c.loop-next.invariant.reached.comes

pub loop-next-preserved : goal.loop-next-preserved
loop-next-preserved c =
    let next = c.loop-next.next in
    let timed = c.loop-next.invariant.timed in
    let n = number_of c.args.entry.now next in
    let due : ideal c.args.entry.now n < end_of c.args.span.now.pace c.args.span.now.round =
    omega (arith, ideal_is c.args.entry.now next timed, c.args.span.now.ends, c.loop-next-test.true) in
    let settled = rw c.if-not-branch.false at c.in_ok-settle_one.ensures.one in
    let active_is = c.speaks-active.ensures ∙ ap (speaks_of c.args.kinds) (sym (ideal_is c.args.entry.now next timed)) in
    record {
      timed = c.after-next.ensures.timed;
      begins = λ late. inr (begins_later c.speaks-active.result next.ideal c.after-next.result.ideal
          c.after-next.result.k c.args.span.now.end c.loop-next-test.true late c.after-next.ensures.comes);
      reached = rw c.after-next.ensures.number
          (reached-next c.args.span.now.pace c.args.span.now.round c.args.entry.now (speaks_of c.args.kinds)
          (number_of c.args.entry.now c.args.first) c.args.board.now c.args.settled.now.items n c.loop-next.board
          c.loop-next.settled.items c.speaks-active.result c.settle_one.new.board c.settle_one.new.settled.items
          c.loop-next.invariant.reached (windows c.args.entry.now timed.entry) active_is due
          c.settle_one.ensures.board c.settle_one.ensures.len settled c.in_ok-settle_one.ensures.told);
    }

-- where an occurrence waits
pub returns-then-not-branch-clause-board : goal.returns-then-not-branch-clause-board
returns-then-not-branch-clause-board c =
    let n = number_of c.args.entry.now c.loop-next.next in
    let waits = rw c.if-not-branch.true at c.in_ok-settle_one.ensures.waits in
    let active_is = c.speaks-active.ensures ∙
    ap (speaks_of c.args.kinds) (sym (ideal_is c.args.entry.now c.loop-next.next c.loop-next.invariant.timed)) in
    stands c.args.span.now.pace c.args.span.now.round c.args.entry.now c.speaks-active.result n c.loop-next.board
    c.settle_one.new.board c.loop-next.settled.items c.settle_one.new.settled.items waits c.settle_one.ensures.board
    c.in_ok-settle_one.ensures.told ∙
    last_board c.args.span.now.pace c.args.span.now.round c.args.entry.now (speaks_of c.args.kinds)
    (number_of c.args.entry.now c.args.first) c.args.board.now c.args.settled.now.items n c.loop-next.board
    c.loop-next.settled.items c.loop-next.invariant.reached
    (settle-waits c.args.span.now.pace c.args.span.now.round c.args.entry.now (speaks_of c.args.kinds) n
    c.loop-next.board (windows c.args.entry.now c.loop-next.invariant.timed.entry)
    (subst (λ active. Waits c.args.span.now.pace c.args.span.now.round c.args.entry.now active c.loop-next.board n)
    active_is waits))

pub returns-then-not-branch-clause-numbers : goal.returns-then-not-branch-clause-numbers
returns-then-not-branch-clause-numbers c =
    let n = number_of c.args.entry.now c.loop-next.next in
    let waits = rw c.if-not-branch.true at c.in_ok-settle_one.ensures.waits in
    let active_is = c.speaks-active.ensures ∙
    ap (speaks_of c.args.kinds) (sym (ideal_is c.args.entry.now c.loop-next.next c.loop-next.invariant.timed)) in
    last_numbers c.args.span.now.pace c.args.span.now.round c.args.entry.now (speaks_of c.args.kinds)
    (number_of c.args.entry.now c.args.first) c.args.board.now c.args.settled.now.items n c.loop-next.board
    c.loop-next.settled.items c.loop-next.invariant.reached
    (settle-waits c.args.span.now.pace c.args.span.now.round c.args.entry.now (speaks_of c.args.kinds) n
    c.loop-next.board (windows c.args.entry.now c.loop-next.invariant.timed.entry)
    (subst (λ active. Waits c.args.span.now.pace c.args.span.now.round c.args.entry.now active c.loop-next.board n)
    active_is waits))

pub returns-then-not-branch-clause-told : goal.returns-then-not-branch-clause-told
returns-then-not-branch-clause-told c =
    let n = number_of c.args.entry.now c.loop-next.next in
    let waits = rw c.if-not-branch.true at c.in_ok-settle_one.ensures.waits in
    let active_is = c.speaks-active.ensures ∙
    ap (speaks_of c.args.kinds) (sym (ideal_is c.args.entry.now c.loop-next.next c.loop-next.invariant.timed)) in
    stands_told c.args.span.now.pace c.args.span.now.round c.args.entry.now c.speaks-active.result n c.loop-next.board
    c.settle_one.new.board c.loop-next.settled.items c.settle_one.new.settled.items waits c.settle_one.ensures.board
    c.in_ok-settle_one.ensures.told ∙
    last_told c.args.span.now.pace c.args.span.now.round c.args.entry.now (speaks_of c.args.kinds)
    (number_of c.args.entry.now c.args.first) c.args.board.now c.args.settled.now.items n c.loop-next.board
    c.loop-next.settled.items c.loop-next.invariant.reached
    (settle-waits c.args.span.now.pace c.args.span.now.round c.args.entry.now (speaks_of c.args.kinds) n
    c.loop-next.board (windows c.args.entry.now c.loop-next.invariant.timed.entry)
    (subst (λ active. Waits c.args.span.now.pace c.args.span.now.round c.args.entry.now active c.loop-next.board n)
    active_is waits))

-- and where nothing more is due
pub returns-clause-board : goal.returns-clause-board
returns-clause-board c =
    let n = number_of c.args.entry.now c.loop-next.next in
    last_board c.args.span.now.pace c.args.span.now.round c.args.entry.now (speaks_of c.args.kinds)
    (number_of c.args.entry.now c.args.first) c.args.board.now c.args.settled.now.items n c.loop-next.board
    c.loop-next.settled.items c.loop-next.invariant.reached
    (settle-none c.args.span.now.pace c.args.span.now.round c.args.entry.now (speaks_of c.args.kinds) n
    c.loop-next.board (windows c.args.entry.now c.loop-next.invariant.timed.entry)
    (omega (arith, ideal_is c.args.entry.now c.loop-next.next c.loop-next.invariant.timed, c.args.span.now.ends, c.loop-next-test.false)))

pub returns-clause-numbers : goal.returns-clause-numbers
returns-clause-numbers c =
    let n = number_of c.args.entry.now c.loop-next.next in
    last_numbers c.args.span.now.pace c.args.span.now.round c.args.entry.now (speaks_of c.args.kinds)
    (number_of c.args.entry.now c.args.first) c.args.board.now c.args.settled.now.items n c.loop-next.board
    c.loop-next.settled.items c.loop-next.invariant.reached
    (settle-none c.args.span.now.pace c.args.span.now.round c.args.entry.now (speaks_of c.args.kinds) n
    c.loop-next.board (windows c.args.entry.now c.loop-next.invariant.timed.entry)
    (omega (arith, ideal_is c.args.entry.now c.loop-next.next c.loop-next.invariant.timed, c.args.span.now.ends, c.loop-next-test.false)))

pub returns-clause-told : goal.returns-clause-told
returns-clause-told c =
    let n = number_of c.args.entry.now c.loop-next.next in
    last_told c.args.span.now.pace c.args.span.now.round c.args.entry.now (speaks_of c.args.kinds)
    (number_of c.args.entry.now c.args.first) c.args.board.now c.args.settled.now.items n c.loop-next.board
    c.loop-next.settled.items c.loop-next.invariant.reached
    (settle-none c.args.span.now.pace c.args.span.now.round c.args.entry.now (speaks_of c.args.kinds) n
    c.loop-next.board (windows c.args.entry.now c.loop-next.invariant.timed.entry)
    (omega (arith, ideal_is c.args.entry.now c.loop-next.next c.loop-next.invariant.timed, c.args.span.now.ends, c.loop-next-test.false)))
