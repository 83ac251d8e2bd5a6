use Rattle.std.proofs.Common.{◌-◌, ◌≤◌, not, length, get_or, sym, ap, subst, ◌∙◌, arith, ne_eqb}
use Rattle.us_activity.specs.Kept.{AreInOrder, IsPartedAt}
use Rattle.us_activity.proofs.SearchLemmas.{active_without, active_by_another, active_by_last}
use Rattle.us_activity.proofs.activities.Activities.is_active.Goals as goal

pub count_up_to-count-requires : goal.count_up_to-count-requires
count_up_to-count-requires c = subst AreInOrder (sym c.deref.ensures.value) c.self.invariant

pub returns-then-count-eq0 : goal.returns-then-count-eq0
returns-then-count-eq0 c =
    let count = c.count_up_to-count.result in
    let here = c.deref.ensures.value ∙ c.self.view_is in
    let point = subst (λ ms. IsPartedAt ms c.args.word c.args.round count) here c.count_up_to-count.ensures.parted in
    sym (active_without c.args.self.now c.args.word c.args.round count point c.if-count-eq0.true)

pub returns-then-last-word : goal.returns-then-last-word
returns-then-last-word c =
    let marks = c.args.self.now in
    let count = c.count_up_to-count.result in
    let last = c.index-last.result.now in
    let here = c.deref.ensures.value ∙ c.self.view_is in
    let point = subst (λ ms. IsPartedAt ms c.args.word c.args.round count) here c.count_up_to-count.ensures.parted in
    let inside : count ≤ length marks = subst (λ ms. count ≤ length ms) here c.count_up_to-count.ensures.inside in
    let at = sym (c.index-last.ensures ∙ ap (λ ms. get_or ms (count - 1) last) c.self.view_is) in
    ap not (ne_eqb last.word c.args.word c.if-last-word.true)
    ∙ sym (active_by_another marks c.args.word c.args.round count point last
    (subst AreInOrder c.self.view_is c.self.invariant) (omega (arith, c.if-count-eq0.false)) inside at
    c.if-last-word.true)

pub returns-else-last-word : goal.returns-else-last-word
returns-else-last-word c =
    let marks = c.args.self.now in
    let count = c.count_up_to-count.result in
    let last = c.index-last.result.now in
    let here = c.deref.ensures.value ∙ c.self.view_is in
    let point = subst (λ ms. IsPartedAt ms c.args.word c.args.round count) here c.count_up_to-count.ensures.parted in
    let inside : count ≤ length marks = subst (λ ms. count ≤ length ms) here c.count_up_to-count.ensures.inside in
    let at = sym (c.index-last.ensures ∙ ap (λ ms. get_or ms (count - 1) last) c.self.view_is) in
    sym (active_by_last marks c.args.word c.args.round count point last
    (subst AreInOrder c.self.view_is c.self.invariant) (omega (arith, c.if-count-eq0.false)) inside at
    c.if-last-word.false)
