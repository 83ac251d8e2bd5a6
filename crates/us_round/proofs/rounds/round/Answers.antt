use Rattle.std.proofs.Common.{ap, subst, ◌∙◌, inl, inr, arith}
use Rattle.us_output.specs.Outputs.{out_of, AreWithinLimits}
use Rattle.us_round.specs.Rounds.{RoundResult, round_of}
use Rattle.us_round.proofs.StageLemmas.{done_few, same_tables}
use Rattle.us_round.proofs.rounds.round.Goals as goal

pub returns-clause-state : goal.returns-clause-state
returns-clause-state g c = c.into_state.ensures ∙ ap (λ (r : RoundResult). r.state) c.in_ok-done.ensures.value

pub returns-clause-out : goal.returns-clause-out
returns-clause-out g c =
    c.in_ok-out.ensures.out
    ∙ ap (λ (r : RoundResult). out_of r.state.tables r.scheduled) c.in_ok-done.ensures.value
    ∙ ap (λ t. out_of t (round_of c.args.state c.args.cuts.now).scheduled) (same_tables c.args.state c.args.cuts.now)

pub returns-clause-limits : goal.returns-clause-limits
returns-clause-limits g c =
    subst (λ t. AreWithinLimits t (round_of c.args.state c.args.cuts.now).scheduled)
    (same_tables c.args.state c.args.cuts.now)
    (subst (λ r. AreWithinLimits r.state.tables r.scheduled) c.in_ok-done.ensures.value c.in_ok-out.ensures.limits)

pub returns-clause-few : goal.returns-clause-few
returns-clause-few g c =
    done_few c.args.state c.args.cuts.now c.in_ok-done.done c.into_state.result c.in_ok-out.out
    c.in_ok-done.ensures.value c.into_state.ensures c.in_ok-out.ensures.out c.in_ok-out.ensures.limits
    c.in_ok-done.ensures.few

pub returns-clause-workers : goal.returns-clause-workers
returns-clause-workers g c = (
  (λ same. absurd (cc same)),
  (λ wrong. elim wrong [
    | inl none ↦ absurd (c.if-workers-eq0.false none)
    | inr many ↦ absurd (omega (arith, c.if-workers-gt-MAX_WORKERS.false, many))
  ]),
)
