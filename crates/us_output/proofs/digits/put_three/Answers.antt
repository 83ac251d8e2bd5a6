use Rattle.std.proofs.Common.{◌++◌, take, ap, ◌∙◌}
use Rattle.us_output.proofs.DigitLemmas.{three_is}
use Rattle.us_output.proofs.digits.put_three.Goals as goal

pub returns-clause-bytes : goal.returns-clause-bytes
returns-clause-bytes c =
    c.put_bytes.ensures.bytes ∙ ap (λ digits. take c.args.at c.args.out.now ++ digits)
    (rw c.as_bytes-bytes.ensures.value (three_is c.args.number c.requires.short))
