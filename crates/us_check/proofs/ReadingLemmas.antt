-- Reading a report line by line, and at places.
use Rattle.std.proofs.Common.{◌≡◌, ℕ, ◌+◌, ◌<◌, ◌≤◌, true, List, [], ◌∷◌, ◌++◌, length, take, drop, get_or, Option, Some, None, option_map, refl, sym, ap, ◌∙◌, arith, add-one, length-append}
use Rattle.std.proofs.Math.Seq.{take-suc}
use Rattle.std.proofs.lemmas.Bool.{le-leb}
use Rattle.std.proofs.lemmas.List.{take_all}
use Rattle.std.proofs.lemmas.List.Elements.{filter_map-append}
use Rattle.us_output.specs.declared.rows.Row.{Row}
use Rattle.us_reports.specs.Reports.{BeginsNoLine, IsFirstBad, IsLineAt, IsReport}
use Rattle.us_reports.specs.ReportReaders.{row_at}
use Rattle.us_reports.proofs.ReportLemmas.{Read, less_left, read_bad, read_more, read_nothing, read_whole}
use Rattle.us_reports.proofs.ReportLineLemmas.{row_again, row_found}
use Rattle.us_check.specs.declared.judging.Standing.{Standing}
use Rattle.us_flows.specs.Tables.{Tables}
use Rattle.std.specs.List.{AllByRecursion}
use Rattle.us_output.proofs.PartLemmas.{all_append, all_at}
use Rattle.us_map_rules.specs.RegionLines.{PlacedRegion, comes_next, is_behind, number_behind, placed_line}
use Rattle.us_check.specs.Judges.{IsStanding, line_there, lines_there, map_told}

-- so many lines were read up to a place, and this is so of them
pub record IsReadTo (Is : List Row → Type 0) (report : List ℕ) (number at : ℕ) : Type 0 where
  pub lines : List Row
  pub count : number ≡ length lines
  pub few : number ≤ at
  pub read : Read report lines (drop at report)
  pub is : Is lines

pub read_start : (Is : List Row → Type 0) (report : List ℕ) → Is [] → IsReadTo Is report 0 0
read_start Is report is =
    record { lines = []; count = refl; few = omega arith; read = read_nothing report; is = is }

pub read_on : (Is Next : List Row → Type 0) (report : List ℕ) (number at : ℕ) (row : Row) (next : ℕ) →
    IsReadTo Is report number at → IsLineAt report at row next → at < length report →
    ((lines : List Row) → Is lines → Next (lines ++ row ∷ [])) → IsReadTo Next report (number + 1) next
read_on Is Next report number at row next to line within more = record {
  lines = to.lines ++ row ∷ [];
  count = omega (arith, to.count, length-append to.lines (row ∷ []));
  few = omega (arith, to.few, less_left report at next row line within);
  read = read_more report at next to.lines row to.read line;
  is = more to.lines to.is;
}

pub read_fault : (Is : List Row → Type 0) (report : List ℕ) (number at : ℕ) → IsReadTo Is report number at →
    at < length report → BeginsNoLine (drop at report) → IsFirstBad report (number + 1)
read_fault Is report number at to within none = read_bad report at to.lines number to.read to.count within none

pub read_all : (Is : List Row → Type 0) (report : List ℕ) (number at : ℕ) → IsReadTo Is report number at →
    length report ≤ at → (lines : List Row) × IsReport report lines × Is lines
read_all Is report number at to past = (to.lines, read_whole report at to.lines to.read past, to.is)

-- Lines at places.

pub line_none : (report : List ℕ) (at : ℕ) → BeginsNoLine (drop at report) → line_there report at ≡ None
line_none report at none = by (row_at (drop at report)) refl
  where
    by : (o : Option (Row × List ℕ)) → row_at (drop at report) ≡ o → option_map (λ (found : Row × List ℕ). found.0) o ≡ None
    by None is = refl
    by (Some x) is =
        let told = row_found (drop at report) x is in
        absurd (none x.0 x.1 told.0 told.1)

pub line_some : (report : List ℕ) (at : ℕ) (row : Row) (next : ℕ) → IsLineAt report at row next →
    line_there report at ≡ Some row
line_some report at row next line =
    ap (option_map (λ (found : Row × List ℕ). found.0)) (ap row_at line.spelled ∙ row_again row (drop next report) line.is)

pub there_behind : (report : List ℕ) (standings : List Standing) (s : Standing) (row : Row) → line_there report s.at ≡ Some row →
    lines_there report (standings ++ s ∷ []) ≡ lines_there report standings ++ row ∷ []
there_behind report standings s row there = filter_map-append (λ s. line_there report s.at) standings (s ∷ []) ∙ rw there refl

pub there_more : (report : List ℕ) (standings : List Standing) (i : ℕ) (d : Standing) (row : Row) → i < length standings →
    line_there report (get_or standings i d).at ≡ Some row →
    lines_there report (take (i + 1) standings) ≡ lines_there report (take i standings) ++ row ∷ []
there_more report standings i d row inside there =
    let more : take (i + 1) standings ≡ take i standings ++ get_or standings i d ∷ [] =
    rw add-one (take-suc standings i d inside) in
    ap (lines_there report) more ∙ there_behind report (take i standings) (get_or standings i d) row there

pub there_all : (report : List ℕ) (standings : List Standing) (i : ℕ) → length standings ≤ i →
    lines_there report (take i standings) ≡ lines_there report standings
there_all report standings i past = ap (lines_there report) (take_all i standings past)

-- these lines stand at places
abbrev pub AreStandingsOf : Tables → ℕ → List ℕ → List Standing → List Row → Type 0
AreStandingsOf t rounds report standings lines =
    (lines_there report standings ≡ lines) × AllByRecursion (IsStanding t rounds report) standings

-- and one more does
pub standing_more : (t : Tables) (rounds : ℕ) (report : List ℕ) (standings : List Standing) (s : Standing) (row : Row)
    (lines : List Row) → line_there report s.at ≡ Some row → s.map ≡ map_told (placed_line t rounds row) →
    AreStandingsOf t rounds report standings lines → AreStandingsOf t rounds report (standings ++ s ∷ []) (lines ++ row ∷ [])
standing_more t rounds report standings s row lines there is so = (
  there_behind report standings s row there ∙ ap (λ ls. ls ++ row ∷ []) so.0,
  all_append (IsStanding t rounds report) standings (s ∷ []) so.1 (rw there (ap Some (sym is)), tt),
)

-- a line that stands there comes next up to its MAP, and then the number is no more than that
pub next_there : (t : Tables) (rounds number : ℕ) (report : List ℕ) (standings : List Standing) (i : ℕ) (d : Standing)
    (row : Row) → AllByRecursion (IsStanding t rounds report) standings → i < length standings →
    line_there report (get_or standings i d).at ≡ Some row → number ≤ (get_or standings i d).map →
    (comes_next t rounds number row ≡ true)
    × (number_behind number (placed_line t rounds row) ≤ (get_or standings i d).map)
next_there t rounds number report standings i d row each inside there low =
    let same : Some (map_told (placed_line t rounds row)) ≡ Some (get_or standings i d).map =
    rw there at (all_at (IsStanding t rounds report) standings i d each inside) in
    by (placed_line t rounds row) cc
  where
    by : (placed : Option PlacedRegion) → map_told placed ≡ (get_or standings i d).map →
        (is_behind number placed ≡ true) × (number_behind number placed ≤ (get_or standings i d).map)
    by None is = (refl, low)
    by (Some q) is = (le-leb number q.map (omega (arith, is, low)), omega (arith, is))
