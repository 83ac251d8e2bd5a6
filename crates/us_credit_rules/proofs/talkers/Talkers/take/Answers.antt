use Rattle.std.proofs.Common.{◌≡◌, ◌==◌, None, Some, get_or, length, ap, sym, ◌∙◌}
use Rattle.std.specs.Prelude.{if◌then◌else◌}
use Rattle.std.specs.List.{list_any}
use Rattle.std.specs.Option.{is_some}
use Rattle.us_output.specs.declared.rows.FinalActivity.{FinalActivity}
use Rattle.us_lawful.specs.Finals.{talking}
use Rattle.us_credit_rules.specs.Activities.{talker_at}
use Rattle.us_credit_rules.proofs.TellingLemmas.{line_told}
use Rattle.us_credit_rules.proofs.talkers.Talkers.take.Goals as goal
use Rattle.us_credit_rules.proofs.talkers.Talkers.take.Goals.{then-known, else-known}

pub returns : goal.returns
returns c = λ t v lines channels rounds are.
    let line = c.args.line in
    let kept = c.args.self.now in
    let known : c.is_some-known.result ≡ list_any (λ f. f.flow.id == line.flow) (talking t) =
    c.is_some-known.ensures
    ∙ ap is_some (c.place_at.ensures ∙ ap (λ these. get_or these line.flow None) c.deref.ensures.value)
    ∙ are.ids line.flow in
    let talker : c.if-known.talker ≡ talker_at t line.flow =
    elim c.if-known.branch [
      | then-known w ↦ w.talker-is ∙ ap (λ b. if b then Some line.flow else None) (sym w.if-known.true ∙ known)
      | else-known w ↦ w.talker-is ∙ ap (λ b. if b then Some line.flow else None) (sym w.if-known.false ∙ known)
    ] in
    record {
      all = are.all;
      ids = are.ids;
      told = line_told t.channels v.rounds (length kept.ids.items) (λ (a : FinalActivity). a.flow) (λ a. talker_at t a.flow)
          lines kept.told c.take.new.self line (rw talker at c.take.ensures.told)
          (rw (talker, channels, rounds) at c.take.ensures.strange) are.told;
    }
