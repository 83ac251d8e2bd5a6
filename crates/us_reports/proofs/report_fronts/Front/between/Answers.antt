use Rattle.std.proofs.Common.{◌-◌, arith}
use Rattle.us_reports.proofs.FrontLemmas.{covering}
use Rattle.us_reports.proofs.report_fronts.Front.between.Goals as goal

pub returns : goal.returns
returns c =
    covering (record { first = c.word.result; last = c.word-2.result; last_at = c.args.to - c.args.from - 8 })
    c.args.bytes.now c.args.from c.args.to (omega (arith, c.if-len-gt-MOST.false)) (omega (arith, c.if-len-lt-WORD.false))
    c.word.ensures c.word-2.ensures
