use Rattle.std.proofs.Common.{ap, ◌∙◌}
use Rattle.us_output.specs.Outputs.{out_of}
use Rattle.us_round.specs.Rounds.{RoundResult, round_of}
use Rattle.us_round.proofs.StageLemmas.{same_tables}
use Rattle.us_round.proofs.alone.round_alone.Goals as goal

pub returns-clause-state : goal.returns-clause-state
returns-clause-state c = c.into_state.ensures ∙ ap (λ (r : RoundResult). r.state) c.in_ok-done.ensures.made.value

pub returns-clause-out : goal.returns-clause-out
returns-clause-out c =
    c.in_ok-out.ensures.out
    ∙ ap (λ (r : RoundResult). out_of r.state.tables r.scheduled) c.in_ok-done.ensures.made.value
    ∙ ap (λ t. out_of t (round_of c.args.state c.args.cuts.now).scheduled) (same_tables c.args.state c.args.cuts.now)
