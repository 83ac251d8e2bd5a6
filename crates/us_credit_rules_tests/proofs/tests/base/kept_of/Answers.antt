use Rattle.std.proofs.Common.{◌+◌, ◌<◌, ℕ, List, [], ◌∷◌, ◌++◌, get_or, length, subst, sym, take}
use Rattle.std.proofs.lemmas.List.{take_more}
use Rattle.us_flows.specs.Tables.{Tables}
use Rattle.us_requests.specs.Traces.{TraceAsks}
use Rattle.us_output.specs.declared.rows.Row.{Row}
use Rattle.us_credit_rules.specs.declared.credit_lines.CreditLines.{CreditLines}
use Rattle.us_credit_rules.specs.CreditLines.{AreKept}
use Rattle.us_credit_rules_tests.proofs.tests.base.kept_of.Goals as goal

one_more : (t : Tables) (v : TraceAsks) (kept after : CreditLines) (lines : List Row) (i : ℕ) (d : Row) → i < length lines →
    ((told : List Row) → AreKept t v told kept → AreKept t v (told ++ get_or lines i d ∷ []) after) →
    AreKept t v (take i lines) kept → AreKept t v (take (i + 1) lines) after
one_more t v kept after lines i d inside more are =
    subst (λ told. AreKept t v told after) (sym (take_more lines i d inside)) (more (take i lines) are)

pub loop-line-preserved : goal.loop-line-preserved
loop-line-preserved c =
    one_more c.args.config.now c.args.trace.now c.loop-line.kept c.take.new.self c.args.lines.now c.loop-line.line-index _
    c.loop-line-test.true c.take.ensures.kept c.loop-line.invariant
