-- Lines, statuses and marks, computed by the definitions alone.
use Rattle.std.specs.Prelude.{◌≡◌, ℕ, zero, suc, ◌<◌, List, [], ◌∷◌, codes, refl}
use Rattle.std.proofs.Common.{inl, inr, arith}
use Rattle.std.specs.Fmt.{digits}
use Rattle.us_codec.specs.Elements.{MapElement}
use Rattle.us_codec.specs.declared.faults.MapFault.TheVariants as map_fault
use Rattle.us_flows.specs.declared.faults.Place.{Place}
use Rattle.us_flows.specs.declared.faults.TableName.TheVariants as name
use Rattle.us_flows.specs.declared.faults.ConfigFault.TheVariants as config
use Rattle.us_requests.specs.declared.faults.TraceFault.TheVariants as trace
use Rattle.us_check.specs.declared.faults.CheckFault.TheVariants as check
use Rattle.us_reports.specs.declared.rules.Rule.TheVariants as rule
use Rattle.us_check.specs.declared.verdicts.Verdict.TheVariants as verdict
use Rattle.us_replay.specs.declared.faults.RunFault.TheVariants as run
use Rattle.us_files.specs.declared.streams.Stream.TheVariants as stream
use Rattle.mapsim.specs.declared.faults.Fault.{Fault}
use Rattle.mapsim.specs.declared.faults.Fault.TheVariants as fault
use Rattle.mapsim.specs.Lines.{fault_line}
use Rattle.mapsim.specs.Statuses.{code_of, status_of, verdict_status}
use Rattle.mapsim.specs.Marks.{IsMark, IsSplit}
use Rattle.mapsim.specs.MapLines.{lines_of}

-- a grant of 32 minislots, a gap, the contention of ten and the Null: the second MAP of the stored run
abbrev element : ℕ → ℕ → ℕ → MapElement
element sid iuc offset = record { sid = sid; iuc = iuc; offset = offset }

granted : lines_of 1 1 (element 291 10 0 ∷ element 16383 1 32 ∷ element 16383 1 150 ∷ element 0 7 160 ∷ []) ≡
    codes "1 1 0 32 291 10\n1 1 32 118 16383 1\n1 1 150 10 16383 1\n1 1 160 0 0 7\n"
unfolding lines_of digits
granted = refl

-- a pending behind the Null has no minislots
pending : lines_of 0 2 (element 0 7 160 ∷ element 291 10 160 ∷ []) ≡ codes "0 2 160 0 0 7\n0 2 160 0 291 10\n"
unfolding lines_of digits
pending = refl

-- a fault's line and status
abbrev ends : Fault → List ℕ × ℕ
ends f = (fault_line f, code_of (status_of f))

abbrev channel : Place
channel = record { table = name.Channel; index = 0 }

refused :
    (ends fault.Pipe ≡ (codes "fault pipe", 3)) ×
    (ends (fault.Config config.Text) ≡ (codes "fault C1", 3)) ×
    (ends (fault.Config (config.RoundNotMultiple channel)) ≡ (codes "fault C8 channel 0", 3)) ×
    (ends (fault.Run run.Rounds) ≡ (codes "fault RU1", 3)) ×
    (ends (fault.Run run.Workers) ≡ (codes "fault RU2", 3)) ×
    (ends (fault.Run (run.Trace trace.Header)) ≡ (codes "fault TR1", 3)) ×
    (ends (fault.Run (run.Trace (trace.Number 1000001))) ≡ (codes "fault TR3 1000001", 3)) ×
    (ends (fault.Map map_fault.Order 4) ≡ (codes "fault M6 4", 3)) ×
    (ends (fault.Map map_fault.RecordCut 0) ≡ (codes "fault M11", 3)) ×
    (ends (fault.Check (check.Report 4)) ≡ (codes "fault CK1 4", 3))
unfolding digits
refused = (refl, refl, refl, refl, refl, refl, refl, refl, refl, refl)

failed :
    (ends (fault.Device stream.Config) ≡ (codes "fault io config", 4)) ×
    (ends (fault.Run (run.Trace trace.Read)) ≡ (codes "fault io trace", 4)) ×
    (ends (fault.Run (run.WriteReport 12)) ≡ (codes "fault RU5 12", 4)) ×
    (ends fault.NoMemory ≡ (codes "fault memory", 5)) ×
    (ends (fault.Run (run.NoMemory 3)) ≡ (codes "fault memory", 5)) ×
    (ends (fault.Map map_fault.NoMemory 0) ≡ (codes "fault memory", 5)) ×
    (ends (fault.Check check.NoMemory) ≡ (codes "fault memory", 5))
unfolding digits
failed = (refl, refl, refl, refl, refl, refl, refl)

-- a verdict's status
judged :
    (code_of (verdict_status verdict.Holds) ≡ 0) ×
    (code_of (verdict_status (verdict.Broken rule.Minislots 1 1 150)) ≡ 1)
judged = (refl, refl)

-- the first of two marks; what looks like one within a line is none
abbrev text : List ℕ
text = codes "%%%\n%%\na\n%%\n"

marked : IsMark text 4
marked = record { line = inr refl; bytes = refl }

-- in its first line it is too long, too late in the line, and too short
none_before : (earlier : ℕ) → earlier < 4 → ¬ IsMark text earlier
none_before zero below mark = cc mark.bytes
none_before (suc zero) below mark = elim mark.line [ inl at_start ↦ omega (arith, at_start) | inr behind ↦ omega (arith, behind) ]
none_before (suc (suc zero)) below mark = cc mark.bytes
none_before (suc (suc (suc zero))) below mark = cc mark.bytes
none_before (suc (suc (suc (suc n)))) below mark = omega (arith, below)

split : IsSplit text (codes "%%%\n") (codes "a\n%%\n")
split = record { at = 4; mark = marked; first = none_before; before_it = refl; after_it = refl }
