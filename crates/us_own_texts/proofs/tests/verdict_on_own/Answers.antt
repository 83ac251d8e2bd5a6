use Rattle.std.proofs.Common.{◌≡◌, ℕ, Bool, true, false, List, [], Option, Some, Result, Ok, Err, refl, ap, ap₂, sym, subst, ◌∙◌}
use Rattle.std.specs.Prelude.{◌↔◌}
use Rattle.us_flows.specs.Tables.{Tables, rounds_fit}
use Rattle.us_requests.specs.Traces.{TraceAsks}
use Rattle.us_requests.specs.Readings.{Reads}
use Rattle.us_lawful.specs.Runs.{run_in}
use Rattle.us_replay.specs.declared.faults.RunFault.{RunFault}
use Rattle.us_replay.specs.declared.faults.RunFault.TheVariants as faults
use Rattle.us_replay.specs.declared.summaries.Summary.{Summary}
use Rattle.us_replay.specs.Replays.{Growth, WroteLawful}
use Rattle.us_check.specs.declared.verdicts.Verdict.{Verdict}
use Rattle.us_check.specs.declared.faults.CheckFault.{CheckFault}
use Rattle.us_check.specs.Verdicts.{Answers}
use Rattle.us_check.specs.Laws.{HoldsUnlessNoMemory}
use Rattle.us_own_texts.specs.OwnTexts.{OwnTextsHold, grown_by}
use Rattle.us_own_texts.proofs.tests.verdict_on_own.Goals as goal

-- a number of rounds that a replay answers Ok for fits
fits : (answer : Result Summary RunFault) (summary : Summary) (fit : Bool) → answer ≡ Ok summary →
    (answer ≡ Err faults.Rounds) ↔ (fit ≡ false) → fit ≡ true
fits answer summary true ok refused = refl
fits answer summary false ok refused =
    let never : answer ≡ Err faults.Rounds = refused.1 refl in
    absurd (cc (never, ok))

-- the law, of devices that tell these bytes
by_law : OwnTextsHold → (t : Tables) (rounds : ℕ) (text maps report : List ℕ) (trace : TraceAsks)
    (result : Result Verdict CheckFault) (told again : Option (List ℕ)) (to_maps to_report : Growth) → told ≡ Some text →
    again ≡ Some text → to_maps ≡ grown_by [] maps → to_report ≡ grown_by [] report →
    WroteLawful t rounds told to_maps to_report → Reads t rounds again (Ok trace) →
    Answers (run_in t trace) maps report result → HoldsUnlessNoMemory result
by_law law t rounds text maps report trace result told again to_maps to_report first second maps_are report_is wrote read
    answers =
    law t rounds text [] maps [] report trace result
    (subst (λ bytes. WroteLawful t rounds bytes (grown_by [] maps) (grown_by [] report)) first
    (subst (λ g. WroteLawful t rounds told g (grown_by [] report)) maps_are
    (subst (λ g. WroteLawful t rounds told to_maps g) report_is wrote)))
    (subst (λ bytes. Reads t rounds bytes (Ok trace)) second read) answers

pub read-requires-clause-fits : goal.read-requires-clause-fits
read-requires-clause-fits g c =
    fits (Ok c.in_ok-replay.field-0) c.in_ok-replay.field-0 _ refl c.in_ok-replay.ensures.rounds

pub check-requires : goal.check-requires
check-requires g c =
    subst (λ n. rounds_fit c.args.config.now n ≡ true) (sym c.in_ok-trace.ensures.read.3.run)
    (fits (Ok c.in_ok-replay.field-0) c.in_ok-replay.field-0 _ refl c.in_ok-replay.ensures.rounds)

pub returns : goal.returns
returns g c =
    by_law c.own_texts_hold.ensures c.args.config.now c.args.rounds c.args.text.now c.deref.result.now c.deref-2.result.now
    c.in_ok-trace.trace c.check.result _ _ _ _
    (ap (λ d. Some d.inner.now) c.new-3.ensures)
    (ap (λ d. Some d.inner.now) c.new-4.ensures)
    (ap₂ (λ had has. record { before = Some had; after = Some has })
    (ap (λ d. d.inner.items) c.new-maps.ensures ∙ c.new.ensures.items)
    (ap (λ v. v.items) (sym c.into_inner-maps.ensures) ∙ sym c.deref.ensures.value))
    (ap₂ (λ had has. record { before = Some had; after = Some has })
    (ap (λ d. d.inner.items) c.new-report.ensures ∙ c.new-2.ensures.items)
    (ap (λ v. v.items) (sym c.into_inner-report.ensures) ∙ sym c.deref-2.ensures.value))
    c.in_ok-replay.ensures.lawful c.in_ok-trace.ensures.read c.check.ensures
