-- What a lint of a configuration answers, by what reading it answers.
use Rattle.std.specs.Prelude.{◌≡◌, ℕ, List, Result, Ok, Err}
use Rattle.us_flows.specs.declared.faults.ConfigFault.{ConfigFault}
use Rattle.us_flows.specs.declared.faults.ConfigFault.TheVariants as faults
use Rattle.us_flows.specs.Tables.{Tables}
use Rattle.us_flows.specs.Answers.{Answers}
use Rattle.us_findings.specs.declared.findings.Findings.{Findings}
use Rattle.us_findings.specs.declared.findings.What.TheVariants as found

-- Without an error it is the tables of the text; else the first error is a fault that reading the text answers, and not
-- that memory is wanting, which may always be answered.
abbrev pub IsConfigLint : List ℕ → Result Tables Findings → Type 0
IsConfigLint text (Ok tables) = Answers text (Ok tables)
IsConfigLint text (Err findings) =
    (fault : ConfigFault) × (findings.first.what ≡ found.Config fault) × (¬ (fault ≡ faults.NoMemory)) ×
    Answers text (Err fault)
