-- What a verdict names, by the numbers of rules: it fails there and holds before, part by part, and those of a lower
-- number hold.
use Rattle.std.specs.Prelude.{◌≡◌, ◌≢◌, ℕ, ◌<◌, true, List, Ok}
use Rattle.us_reports.specs.declared.place.Place.{Place}
use Rattle.us_lawful.specs.Runs.{Run, Judged}
use Rattle.us_reports.specs.Order.{goes_before}
use Rattle.us_reports.specs.declared.rules.Rule.{Rule}
use Rattle.us_reports.specs.declared.rules.Rule.TheVariants as rules
use Rattle.us_check.specs.declared.verdicts.Verdict.TheVariants as verdicts
use Rattle.us_check.specs.Verdicts.{Answers, AreRead, EarlierHold, Holds, HoldsAll, Part, rule_of}

-- the number of a rule
abbrev pub number_of : Rule → ℕ
number_of rules.Records = 1
number_of rules.Headings = 2
number_of rules.Minislots = 3
number_of rules.Occurrences = 4
number_of rules.Rates = 5
number_of rules.Credits = 6

-- a rule holds at a place: each of its parts does
abbrev pub RuleHolds : Run → Judged → Rule → Place → Type 0
RuleHolds run judged rule p = (part : Part) → rule_of part ≡ rule → Holds run judged part p

-- a rule holds before a place: each part of it does, if all parts before that one hold at all places
abbrev pub RuleHoldsBefore : Run → Judged → Rule → Place → Type 0
RuleHoldsBefore run judged rule place =
    (part : Part) → rule_of part ≡ rule → EarlierHold run judged part →
    (p : Place) → goes_before run.tables.channels p place ≡ true → Holds run judged part p

-- a rule is broken first at a place, and it is the first that is
pub record IsFirstBroken (run : Run) (judged : Judged) (rule : Rule) (place : Place) : Type 0 where
  pub fails : RuleHolds run judged rule place → ⊥
  pub lower : (part : Part) → number_of (rule_of part) < number_of rule → HoldsAll run judged part
  pub before : RuleHoldsBefore run judged rule place

-- So it is of whatever a verdict names but records; of these the verdict itself says it.
abbrev pub VerdictsNameTheFirst : Type 0
VerdictsNameTheFirst = (run : Run) (maps report : List ℕ) (rule : Rule) (round channel third : ℕ) →
    rule ≢ rules.Records → Answers run maps report (Ok (verdicts.Broken rule round channel third)) →
    (judged : Judged) × AreRead maps report judged
    × IsFirstBroken run judged rule (record { round = round; channel = channel; third = third })
