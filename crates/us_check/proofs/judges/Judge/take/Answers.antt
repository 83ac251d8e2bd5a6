use Rattle.std.proofs.Common.{◌∙◌, Some, None, refl, sym}
use Rattle.std.proofs.lemmas.Bool.{false≢true}
use Rattle.us_flows.proofs.ListedLemmas.{none_from_is_some}
use Rattle.us_lawful.specs.Runs.{run_in}
use Rattle.us_check.proofs.JudgeLemmas.{due_next, first_stays, told_more}
use Rattle.us_check.proofs.judges.Judge.take.Goals as goal

pub returns-in-Lacked-clause-told : goal.returns-in-Lacked-clause-told
returns-in-Lacked-clause-told c = λ _ maps lines told.
    told_more c.args.config.now c.args.trace.now c.args.file.now maps lines c.args.row.now c.args.self.now
    (record c.args.self.now { regions = c.take.new.self; lacked = c.earlier-self.result }) (Some c.in-Lacked.place)
    (rw c.in-Lacked.is at c.in_ok-place.ensures.answer.lacked) (rw c.channels.ensures.value at c.earlier-self.ensures)
    (λ _ some _. absurd (cc some)) told

pub returns-in-Late-clause-told : goal.returns-in-Late-clause-told
returns-in-Late-clause-told c = λ some maps lines told.
    told_more c.args.config.now c.args.trace.now c.args.file.now maps lines c.args.row.now c.args.self.now
    (record c.args.self.now { regions = c.take.new.self }) None (rw c.in-Late.is at c.in_ok-place.ensures.answer.lacked)
    (first_stays c.args.config.now.channels c.args.self.now.lacked)
    (λ none _ _. absurd (cc (rw none at c.is_some.ensures, some))) told

pub returns-in-Late-clause-next : goal.returns-in-Late-clause-next
returns-in-Late-clause-next c = λ next. absurd (false≢true (rw c.in-Late.is at c.in_ok-place.ensures.answer.told ∙ next))

pub returns-then-is_some-clause-told : goal.returns-then-is_some-clause-told
returns-then-is_some-clause-told c = λ _ maps lines told.
    told_more c.args.config.now c.args.trace.now c.args.file.now maps lines c.args.row.now c.args.self.now
    (record c.args.self.now { regions = c.take.new.self }) None (rw c.in-Told.is at c.in_ok-place.ensures.answer.lacked)
    (first_stays c.args.config.now.channels c.args.self.now.lacked)
    (λ none _ _. absurd (cc (rw none at c.is_some-2.ensures, c.if-is_some.true))) told

pub take-requires-3-clause-due : goal.take-requires-3-clause-due
take-requires-3-clause-due c =
    (due_next (run_in c.args.config.now c.args.trace.now) c.args.self.now.regions.number c.args.self.now.credits.requests.latest
    c.args.row.now
    (c.requires.2.all (none_from_is_some c.args.self.now.lacked (sym c.is_some-2.ensures ∙ c.if-is_some.false))).latest
    (rw c.in-Told.is at c.in_ok-place.ensures.answer.lacked)
    (sym (rw c.in-Told.is at c.in_ok-place.ensures.answer.told))).0

pub returns-clause-told : goal.returns-clause-told
returns-clause-told c = λ _ maps lines told.
    let is_lacked = rw c.in-Told.is at c.in_ok-place.ensures.answer.lacked in
    let next = sym (rw c.in-Told.is at c.in_ok-place.ensures.answer.told) in
    let number = c.in_ok-place.ensures.number (c.in_ok-place.ensures.answer.told ∙ next) in
    told_more c.args.config.now c.args.trace.now c.args.file.now maps lines c.args.row.now c.args.self.now
    (record c.args.self.now { regions = c.take.new.self; calendar = c.take-2.new.self; credits = c.take-3.new.self }) None
    is_lacked (first_stays c.args.config.now.channels c.args.self.now.lacked)
    (λ _ _ all. record {
      regions = (rw c.in-Told.is at c.in_ok-place.ensures.told) refl maps lines all.regions;
      run = c.in_ok-take.ensures.run ∙ all.run;
      calendar = c.in_ok-take.ensures.told lines all.calendar;
      credits = c.take-3.ensures.kept lines all.credits;
      latest = rw (c.take-3.ensures.latest, number)
          (due_next (run_in c.args.config.now c.args.trace.now) c.args.self.now.regions.number
          c.args.self.now.credits.requests.latest c.args.row.now all.latest is_lacked next).1;
    }) told
