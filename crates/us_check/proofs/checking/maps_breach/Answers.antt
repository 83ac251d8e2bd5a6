use Rattle.std.proofs.Common.{refl}
use Rattle.us_lawful.specs.Runs.{run_in}
use Rattle.us_check.proofs.JudgeLemmas.{headings_broken}
use Rattle.us_check.proofs.checking.maps_breach.Goals as goal

pub returns-in-Ok : goal.returns-in-Ok
returns-in-Ok c =
    let told = c.in-Ok.ensures in
    headings_broken (run_in c.args.config.now c.args.trace.now) c.args.maps.now told.0 c.in-Ok.place _ told.1 told.2
    c.broken.ensures

pub returns-in-Err : goal.returns-in-Err
returns-in-Err c = rw c.broken-in-Err.ensures (λ report lines read. (refl, refl, c.in-Err.ensures, lines, read))
