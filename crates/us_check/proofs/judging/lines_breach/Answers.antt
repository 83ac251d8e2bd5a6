use Rattle.us_lawful.specs.Runs.{run_in}
use Rattle.us_check.proofs.MovedLaws.{answer_same}
use Rattle.us_check.proofs.judging.lines_breach.Goals as goal

pub returns : goal.returns
returns c = λ ms is heads.
    let of = c.in_ok-judge.ensures ms is in (
      of.lines,
      of.read,
      answer_same (run_in c.args.config.now c.args.trace.now) ms of.lines of.told _ of.same
          (c.in_ok-breach.ensures ms of.told of.judge (heads of.told)),
    )
