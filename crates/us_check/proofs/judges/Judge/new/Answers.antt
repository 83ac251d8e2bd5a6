use Rattle.std.proofs.Common.{arith}
use Rattle.us_lawful.specs.Runs.{run_in}
use Rattle.us_check.proofs.JudgeLemmas.{first_number}
use Rattle.us_check.proofs.judges.Judge.new.Goals as goal

pub returns-clause-told : goal.returns-clause-told
returns-clause-told c = λ file maps is. record {
  lacked = λ p fails. fails;
  all = λ _. record {
    regions = c.new.ensures (run_in c.args.config.now c.args.trace.now) file maps is;
    run = c.in_ok-new.ensures.run;
    calendar = c.in_ok-new.ensures.told;
    credits = c.in_ok-new-2.ensures.0;
    latest = rw c.in_ok-new-2.ensures.1 (omega arith);
  };
}

pub returns-clause-number : goal.returns-clause-number
returns-clause-number c = first_number (run_in c.args.config.now c.args.trace.now) c.new.result c.new.ensures
