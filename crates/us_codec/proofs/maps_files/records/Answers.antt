use Rattle.us_codec.proofs.FileLemmas.{only-is, cut-is, within-is}
use Rattle.us_codec.proofs.maps_files.records.Goals as goal

pub returns-clause-complete : goal.returns-clause-complete
returns-clause-complete c = λ pieces. only-is c.split.result c.args.file.now pieces c.split.ensures.found c.split.ensures.inside

pub returns-clause-cut : goal.returns-clause-cut
returns-clause-cut c = cut-is c.split.result c.args.file.now c.split.ensures.found c.split.ensures.fault

pub returns-clause-within : goal.returns-clause-within
returns-clause-within c = within-is c.split.result c.args.file.now c.split.ensures.found
