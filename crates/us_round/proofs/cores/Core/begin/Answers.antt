use Rattle.std.proofs.Common.{◌≡◌, length, ap, sym, ◌∙◌}
use Rattle.std.specs.Arc.{arc_value}
use Rattle.us_flows.specs.Clusters.{words_of}
use Rattle.us_round.specs.Cores.{begun_core}
use Rattle.us_round.proofs.CoreLemmas.{core_in, kept_too, begun_kept, begun_value}
use Rattle.us_round.proofs.cores.Core.begin.Goals as goal

pub invariant_of-self : goal.invariant_of-self
invariant_of-self c =
    let a = c.as_mut.result.now in
    let kept = kept_too a c.self.inside.kept.value c.as_mut.ensures.value c.self.invariant in
    let told : core_in a ≡ c.args.self.now = ap core_in c.as_mut.ensures.value ∙ c.self.view_is in
    begun_kept (arc_value a.config) a.round c.args.cuts.now a.askers c.add_all.new.self a.buckets c.begin.new.self a.reserves
    c.begin-2.new.self a.planner a.allowances.items a.left.items kept
    (c.requires.words ∙ sym (ap (λ s. length (words_of s.tables)) told)) c.add_all.ensures c.begin.ensures
    c.begin-2.ensures

pub returns-clause-value : goal.returns-clause-value
returns-clause-value c =
    let a = c.as_mut.result.now in
    let kept = kept_too a c.self.inside.kept.value c.as_mut.ensures.value c.self.invariant in
    let told : core_in a ≡ c.args.self.now = ap core_in c.as_mut.ensures.value ∙ c.self.view_is in
    begun_value (arc_value a.config) a.round c.args.cuts.now a.askers c.add_all.new.self a.buckets c.begin.new.self a.reserves
    c.begin-2.new.self a.planner kept.tables kept.buckets.ticks kept.reserves.ticks c.add_all.ensures c.begin.ensures c.begin-2.ensures
    ∙ ap (λ s. begun_core s c.args.cuts.now) told
