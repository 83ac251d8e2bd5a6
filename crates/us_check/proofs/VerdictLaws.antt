-- Two texts have one answer, and it is `holds` where they are lawful.
use Rattle.std.proofs.Common.{◌≡◌, ◌≢◌, ◌⊎◌, ℕ, zero, suc, ◌<◌, List, [], ◌∷◌, take, get_or, Some, Result, Ok, Err, refl, ap, ap₂, sym, subst, ◌∙◌, inl, inr, arith}
use Rattle.std.specs.Prelude.{slice_get}
use Rattle.std.specs.List.{AllByRecursion}
use Rattle.std.proofs.lemmas.Bool.{cases_lt, false_from_ne_true}
use Rattle.us_output.specs.declared.rows.Row.{Row}
use Rattle.us_reports.specs.declared.place.Place.{Place}
use Rattle.us_lawful.specs.Runs.{Run, RoundMap, Judged}
use Rattle.us_lawful.specs.Lawful.{IsLawful}
use Rattle.us_lawful.specs.Texts.{AreLawful}
use Rattle.us_reports.specs.Reports.{IsReport, IsFirstBad}
use Rattle.us_reports.proofs.ReportLemmas.{one_reading}
use Rattle.us_reports.specs.Breaches.{IsFirstBreach}
use Rattle.us_reports.specs.Order.{goes_before}
use Rattle.us_reports.proofs.AnyLemmas.{any_where}
use Rattle.us_reports.proofs.OrderLemmas.{before-equal}
use Rattle.us_map_rules.specs.MapsReading.{IsMapsOf, IsFirstBadRecord, OneReadingOfMaps}
use Rattle.us_reports.specs.declared.rules.Breach.{Breach}
use Rattle.us_reports.specs.declared.rules.Rule.{Rule}
use Rattle.us_reports.specs.declared.rules.Rule.TheVariants as rules
use Rattle.us_check.specs.declared.verdicts.Verdict.{Verdict}
use Rattle.us_check.specs.declared.verdicts.Verdict.TheVariants as verdicts
use Rattle.us_check.specs.declared.faults.CheckFault.{CheckFault}
use Rattle.us_check.specs.declared.faults.CheckFault.TheVariants as fault
use Rattle.us_check.specs.Verdicts.{Part, Headings, Places, Regions, CalendarLines, Rates, Credits, Finals, Activities, Counts, EarlierHold, Holds, HoldsAll, IsAnswer, IsPartBroken, AreRead, IsBroken, Answers, order_of, parts, rule_of}
use Rattle.us_check.specs.Laws.{HoldsUnlessNoMemory}

-- Readings.

same_ok : {A : Type 0} (a b : A) → ◌≡◌ {A = Result A ℕ} (Ok a) (Ok b) → a ≡ b
same_ok a b same = cc

same_err : {A : Type 0} (m n : ℕ) → ◌≡◌ {A = Result A ℕ} (Err m) (Err n) → m ≡ n
same_err m n same = cc

never_both : {A : Type 0} (a : A) (n : ℕ) → ◌≡◌ {A = Result A ℕ} (Ok a) (Err n) → ⊥
never_both a n same = cc

-- a report has the same lines, whoever reads it,
same_lines : (bytes : List ℕ) (a b : List Row) → IsReport bytes a → IsReport bytes b → a ≡ b
same_lines bytes a b is other = same_ok a b (one_reading bytes (Ok a) (Ok b) is other)

-- or the same first bad line,
same_bad_line : (bytes : List ℕ) (m n : ℕ) → IsFirstBad bytes m → IsFirstBad bytes n → m ≡ n
same_bad_line bytes m n is other = same_err m n (one_reading bytes (Err m) (Err n) is other)

-- and not both
no_bad_line : (bytes : List ℕ) (lines : List Row) (n : ℕ) → IsReport bytes lines → IsFirstBad bytes n → ⊥
no_bad_line bytes lines n is bad = never_both lines n (one_reading bytes (Ok lines) (Err n) is bad)

-- So it is of the records of a maps file.
same_maps : OneReadingOfMaps → (bytes : List ℕ) (a b : List RoundMap) → IsMapsOf bytes a → IsMapsOf bytes b → a ≡ b
same_maps one bytes a b is other = same_ok a b (one bytes (Ok a) (Ok b) is other)

same_bad_record : OneReadingOfMaps → (bytes : List ℕ) (m n : ℕ) → IsFirstBadRecord bytes m → IsFirstBadRecord bytes n →
    m ≡ n
same_bad_record one bytes m n is other = same_err m n (one bytes (Err m) (Err n) is other)

no_bad_record : OneReadingOfMaps → (bytes : List ℕ) (maps : List RoundMap) (n : ℕ) → IsMapsOf bytes maps →
    IsFirstBadRecord bytes n → ⊥
no_bad_record one bytes maps n is bad = never_both maps n (one bytes (Ok maps) (Err n) is bad)

-- so what two texts are read as is one thing
same_read : OneReadingOfMaps → (maps report : List ℕ) (a b : Judged) → AreRead maps report a → AreRead maps report b →
    a ≡ b
same_read one maps report a b is other =
    ap₂ (λ ms ls. record { maps = ms; lines = ls }) (same_maps one maps a.maps b.maps is.records other.records)
    (same_lines report a.lines b.lines is.lines other.lines)

-- Lawful texts.

-- all parts hold of what is lawful,
holds_all : (run : Run) (judged : Judged) → IsLawful run judged → (part : Part) (p : Place) → Holds run judged part p
holds_all run judged lawful Headings p = lawful.headings p
holds_all run judged lawful Places p = lawful.places p
holds_all run judged lawful Regions p = lawful.regions p
holds_all run judged lawful CalendarLines p = lawful.calendar_lines p
holds_all run judged lawful Rates p = lawful.rates p
holds_all run judged lawful Credits p = lawful.credits p
holds_all run judged lawful Finals p = lawful.finals p
holds_all run judged lawful Activities p = lawful.activities p
holds_all run judged lawful Counts p = lawful.counts p

-- one part is broken,
pub broken_part : (run : Run) (judged : Judged) (breach : Breach) → IsAnswer run judged (Some breach) →
    (part : Part) × (breach.rule ≡ rule_of part) × IsPartBroken run judged part breach.place
broken_part run judged breach is =
    let found = any_where (λ part place. (breach.rule ≡ rule_of part) × IsPartBroken run judged part place) parts Headings
    breach.place is in
    (get_or parts found.0 Headings, found.2.0, found.2.1)

-- so none is
never_broken : (run : Run) (judged : Judged) (breach : Breach) → IsLawful run judged →
    IsAnswer run judged (Some breach) → ⊥
never_broken run judged breach lawful is =
    let broken = broken_part run judged breach is in
    broken.2.first.0 (holds_all run judged lawful broken.0 breach.place)

-- lawful texts are read as something lawful
are_read : (run : Run) (maps report : List ℕ) (lawful : AreLawful run maps report) → AreRead maps report lawful.judged
are_read run maps report lawful = record {
  records = record { each = lawful.lawful.maps; spelled = lawful.maps_spelled };
  lines = record { each = lawful.rows; spelled = lawful.report_spelled };
}

-- Breaches.

-- a rule is broken by a record that is none, or by what was read
abbrev pub ByRecord : List ℕ → List ℕ → Breach → Type 0
ByRecord maps report breach =
    (breach.place.round ≡ 0) × (breach.place.channel ≡ 0) × IsFirstBadRecord maps breach.place.third
    × (lines : List Row) × IsReport report lines

abbrev pub ByParts : Run → List ℕ → List ℕ → Breach → Type 0
ByParts run maps report breach =
    (judged : Judged) × AreRead maps report judged × IsAnswer run judged (Some breach)

pub by_either : (run : Run) (maps report : List ℕ) (breach : Breach) (rule : Rule) →
    IsBroken run maps report breach rule →
    ((rule ≡ rules.Records) × ByRecord maps report breach) ⊎ ByParts run maps report breach
by_either run maps report breach rules.Records is = inl (refl, is)
by_either run maps report breach rules.Headings is = inr is
by_either run maps report breach rules.Minislots is = inr is
by_either run maps report breach rules.Occurrences is = inr is
by_either run maps report breach rules.Rates is = inr is
by_either run maps report breach rules.Credits is = inr is

-- lawful texts break none
not_broken : OneReadingOfMaps → (run : Run) (maps report : List ℕ) (breach : Breach) → AreLawful run maps report →
    IsBroken run maps report breach breach.rule → ⊥
not_broken one run maps report breach lawful is = elim (by_either run maps report breach breach.rule is) [
  | inl bad ↦ no_bad_record one maps lawful.judged.maps breach.place.third
      (are_read run maps report lawful).records bad.1.2
  | inr told ↦ never_broken run lawful.judged breach lawful.lawful
      (subst (λ judged. IsAnswer run judged (Some breach))
      (same_read one maps report told.0 lawful.judged told.1 (are_read run maps report lawful)) told.2)
]

-- the line of a report is read in all of them
is_read : (run : Run) (maps report : List ℕ) (breach : Breach) → IsBroken run maps report breach breach.rule →
    (lines : List Row) × IsReport report lines
is_read run maps report breach is = elim (by_either run maps report breach breach.rule is) [
  | inl bad ↦ (bad.1.3, bad.1.4)
  | inr told ↦ (told.0.lines, told.1.lines)
]

-- a rule is broken first at one place
one_place : (run : Run) (Rule : Place → Type 0) (a b : Place) →
    IsFirstBreach run.tables.channels Rule (Some a) → IsFirstBreach run.tables.channels Rule (Some b) → a ≡ b
one_place run Rule a b first other =
    before-equal run.tables.channels a b
    (false_from_ne_true (goes_before run.tables.channels a b) (λ before. first.0 (other.1 a before)))
    (false_from_ne_true (goes_before run.tables.channels b a) (λ before. other.0 (first.1 b before)))

-- what holds of the first so many items does of each of them
held : {X : Type 0} (P : X → Type 0) (xs : List X) (n count : ℕ) (x : X) → slice_get xs n ≡ Some x → n < count →
    AllByRecursion P (take count xs) → P x
held P [] n count x got below all = absurd (cc got)
held P (y ∷ ys) n zero x got below all = absurd (omega (arith, below))
held P (y ∷ ys) zero (suc count) x got below all =
    let is : y ≡ x = cc in
    subst P is all.0
held P (y ∷ ys) (suc n) (suc count) x got below all = held P ys n count x got (omega (arith, below)) all.1

pub listed : (part : Part) → slice_get parts (order_of part) ≡ Some part
listed Headings = refl
listed Places = refl
listed Regions = refl
listed CalendarLines = refl
listed Rates = refl
listed Credits = refl
listed Finals = refl
listed Activities = refl
listed Counts = refl

-- a part before which all hold does so too, or is the one that is broken
pub reached : (run : Run) (judged : Judged) (broken part : Part) (place : Place) → IsPartBroken run judged broken place →
    EarlierHold run judged part → HoldsAll run judged part ⊎ (part ≡ broken)
reached run judged broken part place is hold = elim (cases_lt (order_of part) (order_of broken)) [
  | inl earlier ↦ inl (held (HoldsAll run judged) parts (order_of part) (order_of broken) part (listed part) earlier is.earlier)
  | inr not ↦ elim (cases_lt (order_of broken) (order_of part)) [
    | inl later ↦ absurd (is.first.0 (held (HoldsAll run judged) parts (order_of broken) (order_of part) broken (listed broken)
        later hold place))
    | inr neither ↦
        let same : order_of part ≡ order_of broken = omega arith in
        inr (cc (listed part, listed broken, same))
  ]
]

-- so parts have one answer
one_breach : (run : Run) (judged : Judged) (a b : Breach) → IsAnswer run judged (Some a) →
    IsAnswer run judged (Some b) → a ≡ b
one_breach run judged a b is_a is_b =
    let first = broken_part run judged a is_a in
    let other = broken_part run judged b is_b in
    elim (reached run judged first.0 other.0 a.place first.2 other.2.earlier) [
      | inl holds ↦ absurd (other.2.first.0 (holds b.place))
      | inr same ↦ ap₂ (λ rule place. record { rule = rule; place = place })
          (first.1 ∙ ap rule_of (sym same) ∙ sym other.1)
          (one_place run (Holds run judged first.0) a.place b.place first.2.first
          (subst (λ part. IsFirstBreach run.tables.channels (Holds run judged part) (Some b.place)) same other.2.first))
    ]

-- and two texts one breach
same_breach : OneReadingOfMaps → (run : Run) (maps report : List ℕ) (a b : Breach) →
    IsBroken run maps report a a.rule → IsBroken run maps report b b.rule → a ≡ b
same_breach one run maps report a b is other =
    elim (by_either run maps report a a.rule is) [
      | inl bad ↦ elim (by_either run maps report b b.rule other) [
        | inl worse ↦ ap₂ (λ rule place. record { rule = rule; place = place }) (bad.0 ∙ sym worse.0)
            (ap₂ (λ round channel. record { round = round; channel = channel; third = a.place.third })
            (bad.1.0 ∙ sym worse.1.0) (bad.1.1 ∙ sym worse.1.1)
            ∙ ap (λ third. record { round = b.place.round; channel = b.place.channel; third = third })
            (same_bad_record one maps a.place.third b.place.third bad.1.2 worse.1.2))
        | inr told ↦ absurd (no_bad_record one maps told.0.maps a.place.third told.1.records bad.1.2)
      ]
      | inr told ↦ elim (by_either run maps report b b.rule other) [
        | inl worse ↦ absurd (no_bad_record one maps told.0.maps b.place.third told.1.records worse.1.2)
        | inr again ↦ one_breach run again.0 a b
            (subst (λ judged. IsAnswer run judged (Some a))
            (same_read one maps report told.0 again.0 told.1 again.1) told.2) again.2
      ]
    ]

-- Answers.

abbrev pub breach_of : Rule → ℕ → ℕ → ℕ → Breach
breach_of rule round channel place =
    record { rule = rule; place = record { round = round; channel = channel; third = place } }

abbrev broken : Breach → Result Verdict CheckFault
broken breach =
    Ok (verdicts.Broken breach.rule breach.place.round breach.place.channel breach.place.third)

pub lawful_texts_hold : OneReadingOfMaps → (run : Run) (maps report : List ℕ) (result : Result Verdict CheckFault) →
    AreLawful run maps report → Answers run maps report result → HoldsUnlessNoMemory result
lawful_texts_hold one run maps report (Ok verdicts.Holds) lawful is = inl refl
lawful_texts_hold one run maps report (Ok (verdicts.Broken rule round channel place)) lawful is =
    absurd (not_broken one run maps report (breach_of rule round channel place) lawful is)
lawful_texts_hold one run maps report (Err (fault.Report line)) lawful is =
    absurd (no_bad_line report lawful.judged.lines line (are_read run maps report lawful).lines is)
lawful_texts_hold one run maps report (Err fault.NoMemory) lawful is = inr refl

pub one_answer : OneReadingOfMaps → (run : Run) (maps report : List ℕ) (a b : Result Verdict CheckFault) →
    Answers run maps report a → Answers run maps report b → a ≢ Err fault.NoMemory → b ≢ Err fault.NoMemory → a ≡ b
one_answer one run maps report (Err fault.NoMemory) b is other some more = absurd (some refl)
one_answer one run maps report a (Err fault.NoMemory) is other some more = absurd (more refl)
one_answer one run maps report (Ok verdicts.Holds) (Ok verdicts.Holds) is other some more = refl
one_answer one run maps report (Ok verdicts.Holds) (Ok (verdicts.Broken rule round channel place)) is other some more =
    absurd (not_broken one run maps report (breach_of rule round channel place) is other)
one_answer one run maps report (Ok (verdicts.Broken rule round channel place)) (Ok verdicts.Holds) is other some more =
    absurd (not_broken one run maps report (breach_of rule round channel place) other is)
one_answer one run maps report (Ok (verdicts.Broken rule round channel place))
    (Ok (verdicts.Broken rule2 round2 channel2 place2)) is other some more =
    ap broken (same_breach one run maps report (breach_of rule round channel place)
    (breach_of rule2 round2 channel2 place2) is other)
one_answer one run maps report (Err (fault.Report line)) (Err (fault.Report line2)) is other some more =
    ap (λ n. Err (fault.Report n)) (same_bad_line report line line2 is other)
one_answer one run maps report (Err (fault.Report line)) (Ok verdicts.Holds) is other some more =
    absurd (no_bad_line report other.judged.lines line (are_read run maps report other).lines is)
one_answer one run maps report (Ok verdicts.Holds) (Err (fault.Report line)) is other some more =
    absurd (no_bad_line report is.judged.lines line (are_read run maps report is).lines other)
one_answer one run maps report (Err (fault.Report line)) (Ok (verdicts.Broken rule round channel place)) is other some
    more =
    let read : (lines : List Row) × IsReport report lines =
    is_read run maps report (breach_of rule round channel place) other in
    absurd (no_bad_line report read.0 line read.1 is)
one_answer one run maps report (Ok (verdicts.Broken rule round channel place)) (Err (fault.Report line)) is other some
    more =
    let read : (lines : List Row) × IsReport report lines =
    is_read run maps report (breach_of rule round channel place) is in
    absurd (no_bad_line report read.0 line read.1 other)
