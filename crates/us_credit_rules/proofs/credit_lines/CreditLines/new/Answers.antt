use Rattle.std.proofs.Common.{length, replicate, refl, ap, ◌∙◌}
use Rattle.us_flows.specs.Clusters.{table_order, words_of}
use Rattle.us_output.specs.declared.rows.FinalState.{FinalState}
use Rattle.us_credit_rules.specs.declared.told.Told.TheVariants.{Nothing}
use Rattle.us_credit_rules.specs.Seats.{word_of}
use Rattle.us_credit_rules.proofs.TellingLemmas.{none_told}
use Rattle.us_credit_rules.proofs.credit_lines.CreditLines.new.Goals as goal

pub returns : goal.returns
returns c =
    let t = c.args.config.now in
    let v = c.args.trace.now in (
      record {
        seats = c.in_ok-seats.ensures;
        requests = c.in_ok-requests.ensures.kept v c.requires;
        finals = none_told t.channels v.rounds (length (words_of t)) (λ (f : FinalState). f.flow)
            (λ f. word_of f.flow f.cluster (table_order t)) c.in_ok-finals.finals
            (c.in_ok-finals.ensures.0 ∙ ap (λ words. replicate words Nothing) c.clusters.ensures.value)
            c.in_ok-finals.ensures.1;
        talkers = c.in_ok-talkers.ensures v;
        counts = refl;
      },
      c.in_ok-requests.ensures.latest,
    )
