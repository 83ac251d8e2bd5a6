use Rattle.std.proofs.Common.{◌≡◌, Option, None}
use Rattle.us_flows.specs.Tables.{Tables}
use Rattle.us_requests.specs.Traces.{TraceAsks}
use Rattle.us_reports.specs.declared.place.Place.{Place}
use Rattle.us_lawful.specs.Runs.{Run, Judged, run_in}
use Rattle.us_credit_rules.specs.CreditLines.{AreKept}
use Rattle.us_check.specs.Verdicts.{Activities, CalendarLines, Counts, Credits, Finals, Rates, Regions}
use Rattle.us_check.proofs.JudgeLemmas.{or_lacked, or_none, or_part}
use Rattle.us_check.proofs.judges.Judge.breach.Goals as goal

pub returns : goal.returns
returns c = λ maps lines told heads.
    let t : Tables = c.args.config.now in
    let v : TraceAsks = c.args.trace.now in
    let run : Run = run_in t v in
    let judged : Judged = record { maps = maps; lines = lines } in
    let lacked : Option Place = c.args.self.now.lacked in
    let credits : lacked ≡ None → AreKept t v lines c.args.self.now.credits = λ none. (told.all none).credits in
    let places = or_lacked run judged lacked _ heads told.lacked c.broken.ensures in
    let regions = or_part run judged _ Regions _ _ _ _ places
    (λ none. c.in_ok-minislots.ensures maps lines (told.all none).regions) c.broken-2.ensures c.or.ensures in
    let calendar = or_part run judged _ CalendarLines _ _ _ _ regions
    (λ none. rw (told.all none).run at (c.breach-2.ensures judged (told.all none).calendar)) c.broken-3.ensures c.or-2.ensures in
    let rates = or_part run judged _ Rates _ _ _ _ calendar
    (λ none. c.rates_breach.ensures v judged (credits none)) c.broken-4.ensures c.or-3.ensures in
    let sums = or_part run judged _ Credits _ _ _ _ rates
    (λ none. c.credits_breach.ensures v judged (credits none)) c.broken-5.ensures c.or-4.ensures in
    let finals = or_part run judged _ Finals _ _ _ _ sums
    (λ none. c.in_ok-finals.ensures judged (credits none)) c.broken-6.ensures c.or-5.ensures in
    let activities = or_part run judged _ Activities _ _ _ _ finals
    (λ none. c.in_ok-activities.ensures judged (credits none)) c.broken-7.ensures c.or-6.ensures in
    let counts = or_part run judged _ Counts _ _ _ _ activities
    (λ none. c.counts_breach.ensures t judged (credits none)) c.broken-8.ensures c.or-7.ensures in
    or_none run judged _ _ counts
