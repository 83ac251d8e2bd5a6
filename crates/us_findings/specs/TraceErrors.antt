-- What a lint of a trace answers, by what reading it answers.
use Rattle.std.specs.Prelude.{◌≡◌, ℕ, ◌<◌, ◌≤◌, ◌⊎◌, List, length, Option, Some, None}
use Rattle.us_requests.specs.declared.faults.TraceFault.{TraceFault}
use Rattle.us_requests.specs.declared.faults.TraceFault.TheVariants as fault
use Rattle.us_requests.specs.Readings.{max_bytes}
use Rattle.us_requests.specs.Texts.{trace_fault}
use Rattle.us_findings.specs.declared.findings.Findings.{Findings}
use Rattle.us_findings.specs.declared.findings.What.TheVariants as what

-- the fault that reading a text answers: that it is too long, or else its first one
abbrev pub IsAnswered : List ℕ → TraceFault → Type 0
IsAnswered text answered =
    ((max_bytes < length text) × (answered ≡ fault.TooLarge))
    ⊎ ((length text ≤ max_bytes) × (trace_fault text ≡ Some answered))

-- the first error is that fault
abbrev pub AreErrorsOf : List ℕ → Findings → Type 0
AreErrorsOf text findings =
    (answered : TraceFault) × (findings.first.what ≡ what.Trace answered) × IsAnswered text answered

-- there are none exactly where reading the text answers no fault
abbrev pub IsTraceLint : List ℕ → Option Findings → Type 0
IsTraceLint text None = (length text ≤ max_bytes) × (trace_fault text ≡ None)
IsTraceLint text (Some findings) = AreErrorsOf text findings
