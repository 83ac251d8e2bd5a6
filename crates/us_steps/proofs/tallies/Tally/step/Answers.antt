use Rattle.std.proofs.Common.{ap, ◌∙◌}
use Rattle.us_steps.specs.Tallies.{after}
use Rattle.us_steps.proofs.tallies.Tally.step.Goals as goal

pub returns-in-Add : goal.returns-in-Add
unfolding after
returns-in-Add c = ap (λ s. after c.args.rows.now c.args.self.now s) c.in-Add.is ∙ c.add.ensures

pub returns-in-Take : goal.returns-in-Take
unfolding after
returns-in-Take c = ap (λ s. after c.args.rows.now c.args.self.now s) c.in-Take.is ∙ c.take.ensures

pub returns-in-Open : goal.returns-in-Open
unfolding after
returns-in-Open c = ap (λ s. after c.args.rows.now c.args.self.now s) c.in-Open.is ∙ c.open.ensures

pub returns-in-Built : goal.returns-in-Built
unfolding after
returns-in-Built c = ap (λ s. after c.args.rows.now c.args.self.now s) c.in-Built.is ∙ c.build.ensures
