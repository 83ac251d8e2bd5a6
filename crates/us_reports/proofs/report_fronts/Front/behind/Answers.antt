use Rattle.std.proofs.Common.{arith}
use Rattle.us_reports.proofs.FrontLemmas.{covered}
use Rattle.us_reports.proofs.report_fronts.Front.behind.Goals as goal

pub returns : goal.returns
returns c = (
  omega (arith, c.if-end-from-le-MOST.false, c.requires.near, c.requires.within.0),
  λ text covers. covered c.args.self.now c.args.bytes.now text c.args.from c.word.result c.word-2.result covers c.word.ensures
      c.word-2.ensures c.if-word-self.false c.if-word-self-2.false,
)
