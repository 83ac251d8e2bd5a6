use Rattle.us_lawful.proofs.FieldLaws.{lines_have_fields}
use Rattle.us_lawful.proofs.laws.lines_have_fields.Goals as goal

pub returns : goal.returns
returns c = lines_have_fields
