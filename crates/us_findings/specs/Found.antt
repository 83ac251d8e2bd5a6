-- Inside the crate: the first of the errors that were found.
use Rattle.std.specs.Prelude.{List, [], ◌∷◌, Option, Some, None, option_map}
use Rattle.std.specs.Option.{option_or}
use Rattle.us_requests.specs.declared.faults.TraceFault.{TraceFault}
use Rattle.us_findings.specs.declared.findings.Finding.{Finding}
use Rattle.us_findings.specs.declared.findings.What.{What}
use Rattle.us_findings.specs.declared.findings.What.TheVariants as what

-- what the first of some findings is
abbrev pub first_what : List Finding → Option What
first_what [] = None
first_what (finding ∷ rest) = Some finding.what

-- the same where behind these a fault is found, if there is one
abbrev pub behind : Option What → Option TraceFault → Option What
behind before fault = option_or before (option_map what.Trace fault)
