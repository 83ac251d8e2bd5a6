use Rattle.std.proofs.Common.{◌≡◌, ℕ, ◌+◌, List, [], ◌∷◌, ◌++◌, length, refl, sym, ap, subst, ◌∙◌, arith, length-append}
use Rattle.std.specs.Prelude.{unwrap_or}
use Rattle.us_flows.specs.Tables.{Tables}
use Rattle.us_reports.specs.Reports.{IsReport}
use Rattle.us_reports.proofs.ReportLemmas.{less_left}
use Rattle.us_check.proofs.ReadingLemmas.{AreStandingsOf, IsReadTo, line_some, read_all, read_on, read_start, standing_more}
use Rattle.us_check.specs.declared.judging.Standing.{Standing}
use Rattle.us_check.proofs.judging.standings_as_read.Goals as goal

pub loop-at-init : goal.loop-at-init
loop-at-init c = rw c.new-standings.ensures.items
    (read_start (AreStandingsOf c.args.config.now c.args.trace.now.rounds c.args.report.now []) c.args.report.now (refl, tt))

pub loop-at-smaller : goal.loop-at-smaller
loop-at-smaller c = less_left c.args.report.now c.loop-at.at c.in-Some.behind _ c.in-Some.ensures c.loop-at-test.true

pub loop-at-preserved : goal.loop-at-preserved
loop-at-preserved c =
    let t : Tables = c.args.config.now in
    let rounds : ℕ = c.args.trace.now.rounds in
    let report : List ℕ = c.args.report.now in
    let s : Standing = record { map = c.unwrap_or-map.result; at = c.loop-at.at } in
    let items : List Standing = c.loop-at.standings.items in
    let more : length (items ++ s ∷ []) ≡ length items + 1 = omega (arith, length-append items (s ∷ [])) in
    subst (λ (items : List Standing). IsReadTo (AreStandingsOf t rounds report items) report (length items) c.in-Some.behind)
    (sym c.in_ok-push.ensures.items)
    (subst (λ n. IsReadTo (AreStandingsOf t rounds report (items ++ s ∷ [])) report n c.in-Some.behind) (sym more)
    (read_on (AreStandingsOf t rounds report items) (AreStandingsOf t rounds report (items ++ s ∷ [])) report
    (length items) c.loop-at.at c.in-Some.row c.in-Some.behind c.loop-at.invariant c.in-Some.ensures c.loop-at-test.true
    (λ lines is. standing_more t rounds report items s c.in-Some.row lines
    (line_some report c.loop-at.at c.in-Some.row c.in-Some.behind c.in-Some.ensures) (c.unwrap_or-map.ensures ∙ ap (λ o. unwrap_or o 0) c.map_of.ensures) is)))

pub returns : goal.returns
returns c =
    let all = read_all (AreStandingsOf c.args.config.now c.args.trace.now.rounds c.args.report.now c.loop-at.standings.items)
    c.args.report.now (length c.loop-at.standings.items) c.loop-at.at c.loop-at.invariant c.loop-at-test.false in
    (subst (IsReport c.args.report.now) (sym all.2.0) all.1, all.2.1)
