use Rattle.std.proofs.Common.{◌==◌, length, replicate, ap, ◌∙◌}
use Rattle.std.specs.List.{list_any}
use Rattle.us_output.specs.declared.rows.FinalActivity.{FinalActivity}
use Rattle.us_lawful.specs.Finals.{talking}
use Rattle.us_credit_rules.specs.declared.talkers.Talker.{Talker}
use Rattle.us_credit_rules.specs.declared.told.Told.TheVariants.{Nothing}
use Rattle.us_credit_rules.specs.Activities.{talker_at}
use Rattle.us_credit_rules.proofs.TalkerLemmas.{any_talker}
use Rattle.us_credit_rules.proofs.TellingLemmas.{none_told}
use Rattle.us_credit_rules.proofs.talkers.Talkers.new.Goals as goal

pub returns : goal.returns
returns c = λ v.
    let t = c.args.config.now in
    record {
      all = c.in_ok-all.ensures;
      ids = λ id.
          c.in_ok-ids.ensures id
          ∙ ap (list_any (λ (talker : Talker). talker.id == id)) (c.deref.ensures.value ∙ c.in_ok-all.ensures)
          ∙ any_talker id (talking t);
      told = none_told t.channels v.rounds (length c.in_ok-ids.ids.items) (λ (a : FinalActivity). a.flow)
          (λ a. talker_at t a.flow) c.in_ok-told.told
          (c.in_ok-told.ensures.0 ∙ ap (λ n. replicate n Nothing) (c.len.ensures ∙ c.in_ok-ids.ids.ok.0)) c.in_ok-told.ensures.1;
    }
