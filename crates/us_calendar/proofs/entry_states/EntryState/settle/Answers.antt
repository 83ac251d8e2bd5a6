use Rattle.std.proofs.Common.{◌≡◌, ◌∙◌, ◌++◌, ap, sym, subst, true, is_some, map, flat_map, length}
use Rattle.std.specs.List.{range_with_len}
use Rattle.us_calendar.specs.Occurrences.{ideal, comes}
use Rattle.us_calendar.specs.Settling.{closed, speaks_in, settle_entry, settle_state, told_as}
use Rattle.us_calendar.specs.Kept.{IsEntryState, IsNext, number_of, settle_from, speaks_of, state_from}
use Rattle.us_calendar.proofs.HeardLemmas.{none_of}
use Rattle.us_calendar.proofs.EntryStateLemmas.{state_is, kinds_are, next_comes, next_ideal, begins_always, begins_then, settle_always, state_always, state_then}
use Rattle.us_calendar.proofs.entry_states.EntryState.settle.Goals as goal

-- where its activity isn't detected

pub returns-in_err-self-inside-clause-known : goal.returns-in_err-self-inside-clause-known
returns-in_err-self-inside-clause-known c =
    subst IsEntryState c.self.view_is
    (state_is c.self.inside.entry c.self.inside.next c.self.inside.active c.self.inside.waiting c.self.invariant)

pub invariant_of-self : goal.invariant_of-self
invariant_of-self c =
    let s = c.self.inside in
    let none = none_of s.entry.silence
    (ap (λ state. is_some state.entry.silence) c.self.view_is ∙ sym c.is_heard.ensures ∙ c.if-not-is_heard.true) in
    begins_always s.entry c.in_ok-self-inside.field-0 s.waiting c.in_ok-self-inside.ensures.timed none

pub returns-then-not-is_heard-clause-state : goal.returns-then-not-is_heard-clause-state
returns-then-not-is_heard-clause-state c =
    let s = c.self.inside in
    let none = none_of s.entry.silence
    (ap (λ state. is_some state.entry.silence) c.self.view_is ∙ sym c.is_heard.ensures ∙ c.if-not-is_heard.true) in
    let same = ap (λ k. settle_from c.args.span.now.pace c.args.span.now.round s.entry (speaks_of k) (number_of s.entry s.next)
    c.args.board.now) c.always.ensures ∙
    settle_always c.args.span.now.pace c.args.span.now.round s.entry s.active s.waiting (number_of s.entry s.next)
    c.args.board.now none ∙
    ap (λ state. settle_state c.args.span.now.pace c.args.span.now.round state c.args.board.now) c.self.view_is in
    state_always s.entry s.next c.in_ok-self-inside.field-0 s.active s.waiting c.args.span.now.end
    c.in_ok-self-inside.ensures.timed c.args.self.now
    (settle_state c.args.span.now.pace c.args.span.now.round c.args.self.now c.args.board.now).settlements
    c.self.view_is (c.in_ok-self-inside.ensures.numbers ∙ ap
    (λ o. range_with_len 0 (number_of s.entry s.next) ++ flat_map (closed s.entry) o.settlements) same) none

pub returns-then-not-is_heard-clause-board : goal.returns-then-not-is_heard-clause-board
returns-then-not-is_heard-clause-board c =
    let s = c.self.inside in
    let none = none_of s.entry.silence
    (ap (λ state. is_some state.entry.silence) c.self.view_is ∙ sym c.is_heard.ensures ∙ c.if-not-is_heard.true) in
    let same = ap (λ k. settle_from c.args.span.now.pace c.args.span.now.round s.entry (speaks_of k) (number_of s.entry s.next)
    c.args.board.now) c.always.ensures ∙
    settle_always c.args.span.now.pace c.args.span.now.round s.entry s.active s.waiting (number_of s.entry s.next)
    c.args.board.now none ∙
    ap (λ state. settle_state c.args.span.now.pace c.args.span.now.round state c.args.board.now) c.self.view_is in
    c.in_ok-self-inside.ensures.board ∙ ap (λ o. o.board) same

pub returns-then-not-is_heard-clause-told : goal.returns-then-not-is_heard-clause-told
returns-then-not-is_heard-clause-told c =
    let s = c.self.inside in
    let none = none_of s.entry.silence
    (ap (λ state. is_some state.entry.silence) c.self.view_is ∙ sym c.is_heard.ensures ∙ c.if-not-is_heard.true) in
    let same = ap (λ k. settle_from c.args.span.now.pace c.args.span.now.round s.entry (speaks_of k) (number_of s.entry s.next)
    c.args.board.now) c.always.ensures ∙
    settle_always c.args.span.now.pace c.args.span.now.round s.entry s.active s.waiting (number_of s.entry s.next)
    c.args.board.now none ∙
    ap (λ state. settle_state c.args.span.now.pace c.args.span.now.round state c.args.board.now) c.self.view_is in
    c.in_ok-self-inside.ensures.told ∙
    ap (λ o. c.args.settled.now.items ++ map (told_as s.entry) o.settlements) same ∙ ap (λ state.
    c.args.settled.now.items ++ map (told_as state.entry)
    (settle_state c.args.span.now.pace c.args.span.now.round c.args.self.now c.args.board.now).settlements) c.self.view_is

pub returns-then-not-is_heard-clause-known : goal.returns-then-not-is_heard-clause-known
returns-then-not-is_heard-clause-known c =
    let s = c.self.inside in
    let none = none_of s.entry.silence
    (ap (λ state. is_some state.entry.silence) c.self.view_is ∙ sym c.is_heard.ensures ∙ c.if-not-is_heard.true) in
    state_is s.entry c.in_ok-self-inside.field-0 s.active s.waiting
    (begins_always s.entry c.in_ok-self-inside.field-0 s.waiting c.in_ok-self-inside.ensures.timed none)

-- and where it is

pub settle-requires-2-clause-comes : goal.settle-requires-2-clause-comes
settle-requires-2-clause-comes c =
    let s = c.self.inside in
    let detected = ap (λ state. is_some state.entry.silence) c.self.view_is ∙ sym c.is_heard.ensures ∙ c.if-not-is_heard.false in
    subst (λ speaks. comes s.entry speaks (number_of s.entry s.next) ≡ true)
    (kinds_are s.entry s.next s.active s.waiting c.self.invariant detected ∙ ap speaks_in c.self.view_is ∙
    sym c.kinds-kinds.ensures.speaks) (next_comes s.entry s.next s.active s.waiting c.self.invariant detected)

pub returns-in_err-next-clause-known : goal.returns-in_err-next-clause-known
returns-in_err-next-clause-known c =
    subst IsEntryState c.self.view_is
    (state_is c.self.inside.entry c.self.inside.next c.self.inside.active c.self.inside.waiting c.self.invariant)

pub invariant_of-self-2 : goal.invariant_of-self-2
invariant_of-self-2 c =
    let s = c.self.inside in
    let next = c.in_ok-next.next in
    let detected = ap (λ state. is_some state.entry.silence) c.self.view_is ∙ sym c.is_heard.ensures ∙ c.if-not-is_heard.false in
    let at_is = c.kinds-kinds.ensures.at ∙ ap (λ s. ideal s.entry (length s.settled)) (sym c.self.view_is) ∙
    next_ideal s.entry s.next c.self.invariant.timed in
    subst (IsNext s.entry next) (sym c.waiting_at-self-inside.ensures) (begins_then s.entry s.next next c.kinds-kinds.result s.waiting c.args.span.now.end c.self.invariant
    c.in_ok-next.ensures.timed at_is detected c.in_ok-next.ensures.comes c.in_ok-next.ensures.begins)

pub returns-clause-state : goal.returns-clause-state
returns-clause-state c =
    let s = c.self.inside in
    let next = c.in_ok-next.next in
    let detected = ap (λ state. is_some state.entry.silence) c.self.view_is ∙ sym c.is_heard.ensures ∙ c.if-not-is_heard.false in
    let at_is = c.kinds-kinds.ensures.at ∙ ap (λ s. ideal s.entry (length s.settled)) (sym c.self.view_is) ∙
    next_ideal s.entry s.next c.self.invariant.timed in
    let same = ap (λ speaks. settle_entry c.args.span.now.pace c.args.span.now.round s.entry speaks
    (range_with_len 0 (number_of s.entry s.next)) c.args.board.now)
    (c.kinds-kinds.ensures.speaks ∙ ap speaks_in (sym c.self.view_is)) ∙
    ap (λ state. settle_state c.args.span.now.pace c.args.span.now.round state c.args.board.now) c.self.view_is in
    ap (λ w. state_from s.entry s.active w (number_of s.entry next)) c.waiting_at-self-inside.ensures ∙
    state_then s.entry s.next next s.active s.waiting c.args.span.now.end c.in_ok-next.ensures.timed c.args.self.now
    (settle_state c.args.span.now.pace c.args.span.now.round c.args.self.now c.args.board.now).settlements
    c.self.view_is (c.in_ok-next.ensures.numbers ∙ ap
    (λ o. range_with_len 0 (number_of s.entry s.next) ++ flat_map (closed s.entry) o.settlements) same)
    c.kinds-kinds.result c.self.invariant.timed detected at_is c.kinds-kinds.ensures.speaks

pub returns-clause-known : goal.returns-clause-known
returns-clause-known c =
    let s = c.self.inside in
    let next = c.in_ok-next.next in
    let detected = ap (λ state. is_some state.entry.silence) c.self.view_is ∙ sym c.is_heard.ensures ∙ c.if-not-is_heard.false in
    let at_is = c.kinds-kinds.ensures.at ∙ ap (λ s. ideal s.entry (length s.settled)) (sym c.self.view_is) ∙
    next_ideal s.entry s.next c.self.invariant.timed in
    state_is s.entry next s.active c.waiting_at-self-inside.result
    (subst (IsNext s.entry next) (sym c.waiting_at-self-inside.ensures) (begins_then s.entry s.next next c.kinds-kinds.result s.waiting c.args.span.now.end c.self.invariant
    c.in_ok-next.ensures.timed at_is detected c.in_ok-next.ensures.comes c.in_ok-next.ensures.begins))
