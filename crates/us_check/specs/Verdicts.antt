-- What is answered of a maps file and a report.
use Rattle.std.specs.Prelude.{◌≡◌, ℕ, true, List, [], ◌∷◌, ◌++◌, codes, take, Option, Some, None, Result, Ok, Err}
use Rattle.std.specs.List.{AllByRecursion}
use Rattle.std.specs.Fmt.{decimal}
use Rattle.us_output.specs.declared.rows.Row.{Row}
use Rattle.us_reports.specs.declared.place.Place.{Place}
use Rattle.us_lawful.specs.Runs.{Run, Judged}
use Rattle.us_lawful.specs.Headings.{HeadingsHold}
use Rattle.us_lawful.specs.Places.{places_hold}
use Rattle.us_lawful.specs.Regions.{regions_hold}
use Rattle.us_lawful.specs.CalendarLines.{calendar_lines_hold}
use Rattle.us_lawful.specs.Rates.{rates_hold}
use Rattle.us_lawful.specs.Credits.{credits_hold}
use Rattle.us_lawful.specs.Finals.{finals_hold, activities_hold, counts_hold}
use Rattle.us_lawful.specs.Texts.{AreLawful}
use Rattle.us_reports.specs.Reports.{IsReport, IsFirstBad}
use Rattle.us_reports.specs.Breaches.{Any, IsFirstBreach}
use Rattle.us_reports.specs.Rules.{code_of}
use Rattle.us_map_rules.specs.MapsReading.{IsMapsOf, IsFirstBadRecord}
use Rattle.us_reports.specs.declared.rules.Breach.{Breach}
use Rattle.us_reports.specs.declared.rules.Rule.{Rule}
use Rattle.us_reports.specs.declared.rules.Rule.TheVariants as rules
use Rattle.us_check.specs.declared.verdicts.Verdict.{Verdict}
use Rattle.us_check.specs.declared.verdicts.Verdict.TheVariants as verdicts
use Rattle.us_check.specs.declared.faults.CheckFault.{CheckFault}
use Rattle.us_check.specs.declared.faults.CheckFault.TheVariants as fault

-- What is judged of MAPs and lines that were read, part by part: the rule of minislots has two, that of credits four.
pub data Part : Type 0 where
  Headings : Part
  Places : Part
  Regions : Part
  CalendarLines : Part
  Rates : Part
  Credits : Part
  Finals : Part
  Activities : Part
  Counts : Part

-- the rule that a part is of
abbrev pub rule_of : Part → Rule
rule_of Headings = rules.Headings
rule_of Places = rules.Minislots
rule_of Regions = rules.Minislots
rule_of CalendarLines = rules.Occurrences
rule_of Rates = rules.Rates
rule_of Credits = rules.Credits
rule_of Finals = rules.Credits
rule_of Activities = rules.Credits
rule_of Counts = rules.Credits

-- what a part asks at a place
abbrev pub Holds : Run → Judged → Part → Place → Type 0
Holds run judged Headings p = HeadingsHold run judged p
Holds run judged Places p = places_hold run judged p ≡ true
Holds run judged Regions p = regions_hold run judged p ≡ true
Holds run judged CalendarLines p = calendar_lines_hold run judged p ≡ true
Holds run judged Rates p = rates_hold run judged p ≡ true
Holds run judged Credits p = credits_hold run judged p ≡ true
Holds run judged Finals p = finals_hold run judged p ≡ true
Holds run judged Activities p = activities_hold run judged p ≡ true
Holds run judged Counts p = counts_hold run judged p ≡ true

-- all parts, in the order in which they are looked at, and the place of one in it
abbrev pub parts : List Part
parts = Headings ∷ Places ∷ Regions ∷ CalendarLines ∷ Rates ∷ Credits ∷ Finals ∷ Activities ∷ Counts ∷ []

abbrev pub order_of : Part → ℕ
order_of Headings = 0
order_of Places = 1
order_of Regions = 2
order_of CalendarLines = 3
order_of Rates = 4
order_of Credits = 5
order_of Finals = 6
order_of Activities = 7
order_of Counts = 8

-- a part holds at all places,
abbrev pub HoldsAll : Run → Judged → Part → Type 0
HoldsAll run judged part = (p : Place) → Holds run judged part p

-- and so do those before one
abbrev pub EarlierHold : Run → Judged → Part → Type 0
EarlierHold run judged part = AllByRecursion (HoldsAll run judged) (take (order_of part) parts)

-- a part is broken first at a place, and those before it hold
pub record IsPartBroken (run : Run) (judged : Judged) (part : Part) (place : Place) : Type 0 where
  pub earlier : EarlierHold run judged part
  pub first : IsFirstBreach run.tables.channels (Holds run judged part) (Some place)

-- the answer of all parts: each holds, or one of this rule is broken at this place
abbrev pub IsAnswer : Run → Judged → Option Breach → Type 0
IsAnswer run judged None = AllByRecursion (HoldsAll run judged) parts
IsAnswer run judged (Some breach) =
    Any (λ part place. (breach.rule ≡ rule_of part) × IsPartBroken run judged part place) parts breach.place

-- what two texts have, read as records of MAPs and as lines
pub record AreRead (maps report : List ℕ) (judged : Judged) : Type 0 where
  pub records : IsMapsOf maps judged.maps
  pub lines : IsReport report judged.lines

-- a rule is broken there: a record of the maps file is none, the first such one; or both files are read, and the parts
-- answer so
abbrev pub IsBroken : Run → List ℕ → List ℕ → Breach → Rule → Type 0
IsBroken run maps report breach rules.Records =
    (breach.place.round ≡ 0) × (breach.place.channel ≡ 0) × IsFirstBadRecord maps breach.place.third
    × (lines : List Row) × IsReport report lines
IsBroken run maps report breach _ =
    (judged : Judged) × AreRead maps report judged × IsAnswer run judged (Some breach)

-- what is answered of a maps file and a report; of want of memory this says nothing
abbrev pub Answers : Run → List ℕ → List ℕ → Result Verdict CheckFault → Type 0
Answers run maps report (Ok verdicts.Holds) = AreLawful run maps report
Answers run maps report (Ok (verdicts.Broken rule round channel place)) =
    IsBroken run maps report
    (record { rule = rule; place = record { round = round; channel = channel; third = place } }) rule
Answers run maps report (Err (fault.Report line)) = IsFirstBad report line
Answers run maps report (Err fault.NoMemory) = Unit {0}

-- a verdict as it is printed
abbrev pub verdict_text : Verdict → List ℕ
verdict_text verdicts.Holds = codes "holds"
verdict_text (verdicts.Broken rule round channel place) =
    codes "broken " ++ code_of rule ++ codes " " ++ decimal round ++ codes " " ++ decimal channel ++ codes " "
    ++ decimal place

-- the rule that it names, and where
abbrev pub breach_of : Verdict → Option Breach
breach_of verdicts.Holds = None
breach_of (verdicts.Broken rule round channel place) =
    Some (record { rule = rule; place = record { round = round; channel = channel; third = place } })
