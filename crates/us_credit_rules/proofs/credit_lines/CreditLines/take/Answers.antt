use Rattle.std.proofs.Common.{rules, ◌≡◌, [], ◌∷◌, ◌++◌, cond, false, true, length, ap, refl, subst, sym, ◌∙◌}
use Rattle.us_flows.specs.Clusters.{table_order, words_of}
use Rattle.us_output.specs.declared.rows.FinalState.{FinalState}
use Rattle.us_output.specs.declared.rows.Row.TheVariants as rows
use Rattle.us_lawful.specs.Runs.{activities_in, counts_in, finals_in, requested_in}
use Rattle.us_reports.specs.Rows.{is_requested}
use Rattle.us_credit_rules.specs.Requests.{AreRequests}
use Rattle.us_credit_rules.specs.Seats.{word_of}
use Rattle.us_credit_rules.specs.Tellings.{told_more}
use Rattle.us_credit_rules.proofs.KeptLemmas.{same_counts, same_finals, same_requests, same_talkers, with_line}
use Rattle.us_credit_rules.proofs.TellingLemmas.{line_told, told_push}
use Rattle.us_credit_rules.proofs.credit_lines.CreditLines.take.Goals as goal

pub returns-in-Counts-clause-kept : goal.returns-in-Counts-clause-kept
returns-in-Counts-clause-kept c = λ lines are.
    let t = c.args.config.now in
    let v = c.args.trace.now in
    let kept = c.args.self.now in
    rw c.in-Counts.is
    (with_line t v lines kept are (rows.Counts c.in-Counts.counts) _ refl (same_requests t v lines kept are)
    (same_finals t v lines kept are) (same_talkers t v lines kept are)
    (c.and-self.ensures ∙ ap (told_more c.in-Counts.counts) are.counts
    ∙ sym (told_push (counts_in lines) c.in-Counts.counts)))

pub returns-in-Activity-clause-kept : goal.returns-in-Activity-clause-kept
returns-in-Activity-clause-kept c = λ lines are.
    let t = c.args.config.now in
    let v = c.args.trace.now in
    let kept = c.args.self.now in
    rw c.in-Activity.is
    (with_line t v lines kept are (rows.Activity c.in-Activity.activity) _ refl (same_requests t v lines kept are)
    (same_finals t v lines kept are)
    (c.take-in-Activity.ensures t v (activities_in lines) c.channels-in-Activity.ensures.value
    c.rounds-in-Activity.ensures.value are.talkers) (same_counts t v lines kept are))

pub returns-in-Final-clause-kept : goal.returns-in-Final-clause-kept
returns-in-Final-clause-kept c = λ lines are.
    let t = c.args.config.now in
    let v = c.args.trace.now in
    let kept = c.args.self.now in
    let state = c.in-Final.state in
    let word : c.word-cluster.result ≡ word_of state.flow state.cluster (table_order t) =
    c.word-cluster.ensures ∙ ap (word_of state.flow state.cluster) are.seats in
    rw c.in-Final.is
    (with_line t v lines kept are (rows.Final state) _ refl (same_requests t v lines kept are)
    (line_told t.channels v.rounds (length (words_of t)) (λ (f : FinalState). f.flow)
    (λ f. word_of f.flow f.cluster (table_order t)) (finals_in lines) kept.finals c.take-in-Final.new.self state
    (rw word at c.take-in-Final.ensures.told)
    (rw (word, c.channels.ensures.value, c.rounds.ensures.value) at c.take-in-Final.ensures.strange) are.finals)
    (same_talkers t v lines kept are) (same_counts t v lines kept are))

pub returns-then-eq-clause-kept : goal.returns-then-eq-clause-kept
returns-then-eq-clause-kept c = λ lines are.
    let t = c.args.config.now in
    let v = c.args.trace.now in
    let kept = c.args.self.now in
    let g = c.in-Granted.grant in
    let is : is_requested g.entry ≡ true = search rules in
    rw c.in-Granted.is
    (with_line t v lines kept are (rows.Granted g) _ refl
    (subst (λ b. AreRequests t v (requested_in lines ++ cond b (g ∷ []) []) c.take.new.self) (sym is)
    (c.take.ensures.kept (requested_in lines) are.requests)) (same_finals t v lines kept are)
    (same_talkers t v lines kept are) (same_counts t v lines kept are))

pub returns-else-eq-clause-kept : goal.returns-else-eq-clause-kept
returns-else-eq-clause-kept c = λ lines are.
    let t = c.args.config.now in
    let v = c.args.trace.now in
    let kept = c.args.self.now in
    let g = c.in-Granted.grant in
    let is : is_requested g.entry ≡ false = search rules in
    rw c.in-Granted.is
    (with_line t v lines kept are (rows.Granted g) kept refl
    (subst (λ b. AreRequests t v (requested_in lines ++ cond b (g ∷ []) []) kept.requests) (sym is)
    (same_requests t v lines kept are)) (same_finals t v lines kept are)
    (same_talkers t v lines kept are) (same_counts t v lines kept are))

pub returns-in-Missed-clause-kept : goal.returns-in-Missed-clause-kept
returns-in-Missed-clause-kept c = λ lines are.
    let t = c.args.config.now in
    let v = c.args.trace.now in
    let kept = c.args.self.now in
    rw c.in-Missed.is
    (with_line t v lines kept are _ kept refl (same_requests t v lines kept are) (same_finals t v lines kept are)
    (same_talkers t v lines kept are) (same_counts t v lines kept are))
