use Rattle.std.proofs.Common.{◌≡◌, ap, sym, subst, ◌∙◌}
use Rattle.std.specs.Arc.{arc_value}
use Rattle.us_round.specs.Cores.{credited_core}
use Rattle.us_round.specs.Rounds.{all_grants}
use Rattle.us_round.specs.States.{Covers}
use Rattle.us_round.proofs.CoreLemmas.{core_in, kept_too, closed_kept, closed_value}
use Rattle.us_round.proofs.cores.Core.close.Goals as goal

pub credit_all-requires : goal.credit_all-requires
credit_all-requires c =
    let a = c.as_mut.result.now in
    let kept = kept_too a c.self.inside.kept.value c.as_mut.ensures.value c.self.invariant in
    let told : core_in a ≡ c.args.self.now = ap core_in c.as_mut.ensures.value ∙ c.self.view_is in
    subst (λ left. Covers left a.buckets.levels (all_grants c.args.built.now)) (sym kept.settled)
    (subst (λ s. Covers s.outstanding s.buckets (all_grants c.args.built.now)) (sym told) c.requires.covers)

pub invariant_of-self : goal.invariant_of-self
invariant_of-self c =
    let a = c.as_mut.result.now in
    let kept = kept_too a c.self.inside.kept.value c.as_mut.ensures.value c.self.invariant in
    closed_kept (arc_value a.config) a.askers c.credit_all.new.askers c.settle.new.self a.buckets c.credit_all.new.buckets a.reserves
    a.planner a.allowances.items a.left.items c.args.built.now kept c.credit_all.ensures.credited c.settle.ensures

pub returns-clause-value : goal.returns-clause-value
returns-clause-value c =
    let a = c.as_mut.result.now in
    let kept = kept_too a c.self.inside.kept.value c.as_mut.ensures.value c.self.invariant in
    let told : core_in a ≡ c.args.self.now = ap core_in c.as_mut.ensures.value ∙ c.self.view_is in
    closed_value (arc_value a.config) a.round a.askers c.credit_all.new.askers c.settle.new.self a.buckets c.credit_all.new.buckets
    a.reserves a.planner c.args.built.now kept.settled kept.tables c.credit_all.ensures.credited c.settle.ensures
    ∙ ap (λ s. credited_core s c.args.built.now) told
