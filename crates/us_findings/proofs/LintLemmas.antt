-- What is found in the records of a text, as what a lint of it answers.
use Rattle.std.proofs.Common.{◌≡◌, ℕ, ◌<◌, ◌≤◌, List, [], length, Option, Some, None, refl, ap, ◌∙◌, inl, inr}
use Rattle.std.specs.Prelude.{option_map}
use Rattle.us_requests.specs.declared.faults.TraceFault.{TraceFault}
use Rattle.us_requests.specs.declared.faults.TraceFault.TheVariants as fault
use Rattle.us_requests.specs.Readings.{max_bytes}
use Rattle.us_requests.specs.Texts.{records_fault, records_of, trace_fault}
use Rattle.us_findings.specs.declared.findings.Finding.{Finding}
use Rattle.us_findings.specs.declared.findings.Findings.{Findings}
use Rattle.us_findings.specs.declared.findings.What.{What}
use Rattle.us_findings.specs.declared.findings.What.TheVariants as what
use Rattle.us_findings.specs.TraceErrors.{IsTraceLint}
use Rattle.us_findings.specs.Found.{behind, first_what}
use Rattle.us_findings.specs.Rows.{Reading}

-- the first error of a text that is too long
pub too-long : (text : List ℕ) (findings : Findings) → max_bytes < length text →
    findings.first.what ≡ what.Trace fault.TooLarge → IsTraceLint text (Some findings)
too-long text findings many is = (fault.TooLarge, is, inl (many, refl))

-- what is found in all records
pub all-found : (text : List ℕ) (before : List Finding) (now : Option What) (rows : Reading) → before ≡ [] →
    rows ≡ record { fields = []; left = records_of text } → now ≡ behind (first_what before) (records_fault rows.left) →
    now ≡ behind None (trace_fault text)
unfolding trace_fault
all-found text before now rows none is found =
    found ∙ ap (λ fs. behind (first_what fs) (records_fault rows.left)) none ∙
    ap (λ r. behind None (records_fault r.left)) is

-- the first of it is the text's fault, if it has one
pub first-found : (text : List ℕ) (answer : Option Findings) (now : Option What) → length text ≤ max_bytes →
    now ≡ behind None (trace_fault text) → option_map (λ findings. findings.first.what) answer ≡ now →
    IsTraceLint text answer
first-found text answer now short found is = by answer (trace_fault text) refl is
  where
    by : (answer : Option Findings) (o : Option TraceFault) → trace_fault text ≡ o →
        option_map (λ findings. findings.first.what) answer ≡ now → IsTraceLint text answer
    by None None none is = (short, none)
    by None (Some f) first is =
        let no : None ≡ behind None (Some f) = is ∙ found ∙ ap (behind None) first in absurd cc
    by (Some findings) None none is =
        let no : Some findings.first.what ≡ behind None None = is ∙ found ∙ ap (behind None) none in absurd cc
    by (Some findings) (Some f) first is =
        let same : Some findings.first.what ≡ Some (what.Trace f) = is ∙ found ∙ ap (behind None) first in
        (f, cc, inr (short, first))

pub ruleset linting = (too-long)
