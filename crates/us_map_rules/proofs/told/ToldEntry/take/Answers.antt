use Rattle.std.proofs.Common.{◌≡◌, ◌+◌, ◌*◌, ◌++◌, nat_lt, not, true, false, ap, ap₂, sym, ◌∙◌}
use Rattle.std.proofs.lemmas.List.{append-nil}
use Rattle.std.specs.Prelude.{option_map, option_to_list}
use Rattle.us_lawful.specs.CalendarLines.{closes, round_quarters}
use Rattle.us_map_rules.specs.Naming.{number_told}
use Rattle.us_map_rules.proofs.TakingLemmas.{occurrence_is, right_is, told_is}
use Rattle.us_map_rules.proofs.told.ToldEntry.take.Goals as goal
use Rattle.us_map_rules.proofs.told.ToldEntry.take.Goals.{then-not-closes+in_ok-keep_open, else-not-closes}

pub returns-clause-told : goal.returns-clause-told
returns-clause-told c =
    let run = c.args.run.now in
    let l = c.args.of.now in
    let o = c.in-Some.occurrence in
    let n = o.number in
    let is = occurrence_is run l.entry (number_told run l c.args.line) o c.in-Some.ensures.value in
    let closed : closes run l.entry n ≡ c.closes.result =
    ap₂ (λ e begin. nat_lt (begin + e.jitter) (run.rounds * round_quarters run.tables))
    (sym (ap (λ m. m.entry) c.of.view_is)) (sym (ap (λ o. o.ideal) is.1)) ∙ sym c.closes.ensures in
    let told = told_is run l c.args.row.now c.args.line n c.requires.line is.0 c.args.self.now c.name.new.self
    c.if-not-closes.self in
    elim c.if-not-closes.branch [
      | then-not-closes+in_ok-keep_open w ↦
          let kept = w.in_ok-keep_open.ensures in
          told true (sym (ap not (closed ∙ w.if-not-closes.true))) c.in_ok-name.ensures
          (ap (λ v. v.next) w.self-is ∙ ap (λ v. v.next) kept)
          (ap (λ v. v.others) w.self-is ∙ ap (λ v. v.others) kept)
          (ap (λ v. v.open_lines) w.self-is ∙ ap (λ v. v.open_lines) kept
          ∙ ap (λ o. c.name.new.self.open_lines ++ option_to_list (option_map (λ at. record { number = n; at = at })
          (option_map (λ line. line.at) o))) c.requires.line)
      | else-not-closes w ↦
          told false (sym (ap not (closed ∙ w.if-not-closes.false))) c.in_ok-name.ensures
          (ap (λ v. v.next) w.self-is) (ap (λ v. v.others) w.self-is)
          (ap (λ v. v.open_lines) w.self-is ∙ sym (append-nil c.name.new.self.open_lines))
    ]

pub returns-clause-right : goal.returns-clause-right
returns-clause-right c =
    let run = c.args.run.now in
    let l = c.args.of.now in
    let o = c.in-Some.occurrence in
    let is = occurrence_is run l.entry (number_told run l c.args.line) o c.in-Some.ensures.value in
    c.is_right.ensures ∙ sym (right_is run l c.args.row.now c.args.line o.number c.requires.line is.0)
