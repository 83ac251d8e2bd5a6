-- The codes of the checker's rules.
use Rattle.std.specs.Prelude.{List, ℕ, codes}
use Rattle.us_reports.specs.declared.rules.Rule.{Rule}
use Rattle.us_reports.specs.declared.rules.Rule.TheVariants as rules

-- the code of a rule
abbrev pub code_of : Rule → List ℕ
code_of rules.Records = codes "P1"
code_of rules.Headings = codes "P2"
code_of rules.Minislots = codes "P3"
code_of rules.Occurrences = codes "P4"
code_of rules.Rates = codes "P5"
code_of rules.Credits = codes "P6"
