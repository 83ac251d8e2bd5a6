-- The worst that a listing tells, behind what is listed.
use Rattle.std.specs.Prelude.{◌≡◌, ℕ, suc, ◌≤◌, List, length, Option, Some, None, Result, Ok, Err, ⊤}
use Rattle.us_flows.specs.declared.faults.ConfigFault.{ConfigFault}
use Rattle.us_flows.specs.declared.faults.ConfigFault.TheVariants as config
use Rattle.us_flows.specs.Tables.{Tables}
use Rattle.us_flows.specs.Answers.{Answers}
use Rattle.us_requests.specs.declared.faults.TraceFault.{TraceFault}
use Rattle.us_requests.specs.Readings.{max_bytes}
use Rattle.us_requests.specs.Texts.{trace_fault}
use Rattle.us_findings.specs.TraceErrors.{IsAnswered}
use Rattle.us_listing.specs.declared.worst.Worst.{Worst}
use Rattle.us_listing.specs.declared.worst.Worst.TheVariants as worst

-- with so many warnings beside what was told before, which outweighs them if it is an error
abbrev pub with_warnings : Worst → ℕ → Worst
with_warnings worst.Nothing (suc warnings) = worst.Warning
with_warnings before warnings = before

-- A configuration is answered as it is read, and nothing is told; or the text has a fault, and an error is told.
abbrev pub IsConfigListed : {E : Type 0} → List ℕ → Worst → Worst → Result (Option Tables) E → Type 0
IsConfigListed text before after (Ok (Some tables)) = Answers text (Ok tables) × (after ≡ before)
IsConfigListed text before after (Ok None) =
    (fault : ConfigFault) × (¬ (fault ≡ config.NoMemory)) × Answers text (Err fault) × (after ≡ worst.Error)
IsConfigListed text before after (Err e) = ⊤

-- The rows of a trace are answered where it has no fault, and nothing is told; or it has one, and an error is told.
abbrev pub IsTraceListed : {A E : Type 0} → List ℕ → Worst → Worst → Result (Option A) E → Type 0
IsTraceListed text before after (Ok (Some seen)) =
    (length text ≤ max_bytes) × (trace_fault text ≡ None) × (after ≡ before)
IsTraceListed text before after (Ok None) = (fault : TraceFault) × IsAnswered text fault × (after ≡ worst.Error)
IsTraceListed text before after (Err e) = ⊤
