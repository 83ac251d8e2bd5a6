-- Laws of verdicts: two texts have one, and it is `holds` where they are lawful.
use Rattle.std.specs.Prelude.{◌≡◌, ◌≢◌, ◌⊎◌, ℕ, List, Result, Ok, Err}
use Rattle.us_lawful.specs.Runs.{Run}
use Rattle.us_lawful.specs.Texts.{AreLawful}
use Rattle.us_check.specs.declared.verdicts.Verdict.{Verdict}
use Rattle.us_check.specs.declared.verdicts.Verdict.TheVariants as verdicts
use Rattle.us_check.specs.declared.faults.CheckFault.{CheckFault}
use Rattle.us_check.specs.declared.faults.CheckFault.TheVariants as fault
use Rattle.us_check.specs.Verdicts.{Answers}

-- Two answers that are no want of memory are the same.
abbrev pub OneAnswer : Type 0
OneAnswer = (run : Run) (maps report : List ℕ) (a b : Result Verdict CheckFault) → Answers run maps report a →
    Answers run maps report b → a ≢ Err fault.NoMemory → b ≢ Err fault.NoMemory → a ≡ b

-- it holds, or memory was wanting
abbrev pub HoldsUnlessNoMemory : Result Verdict CheckFault → Type 0
HoldsUnlessNoMemory result = (result ≡ Ok verdicts.Holds) ⊎ (result ≡ Err fault.NoMemory)

-- Texts that are lawful hold.
abbrev pub LawfulTextsHold : Type 0
LawfulTextsHold = (run : Run) (maps report : List ℕ) (result : Result Verdict CheckFault) → AreLawful run maps report →
    Answers run maps report result → HoldsUnlessNoMemory result
