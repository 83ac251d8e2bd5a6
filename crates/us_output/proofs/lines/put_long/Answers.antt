use Rattle.std.proofs.Common.{append_assoc, arith}
use Rattle.us_output.proofs.DigitLemmas.{thousands}
use Rattle.us_output.proofs.lines.put_long.Goals as goal

pub returns-clause-bytes : goal.returns-clause-bytes
returns-clause-bytes c =
    rw (c.put_three.ensures.bytes, c.put_short-end.ensures.bytes, thousands c.args.number c.requires.long (omega arith)) (simp append_assoc)
