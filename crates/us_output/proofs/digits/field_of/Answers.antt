use Rattle.us_output.proofs.DigitLemmas.{count_few, field_is}
use Rattle.us_output.proofs.digits.field_of.Goals as goal

pub returns-clause-bytes : goal.returns-clause-bytes
returns-clause-bytes c = rw (c.from.ensures, c.as_bytes-bytes.ensures.value) (field_is c.args.number c.requires)

pub returns-clause-few : goal.returns-clause-few
returns-clause-few c = rw (c.from.ensures, c.as_bytes-bytes.ensures.value) (count_few c.args.number c.requires)
