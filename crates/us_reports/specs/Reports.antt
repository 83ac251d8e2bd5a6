-- Reports (ours): which bytes are the lines of rows, which line stands at a place, and which line is the first that is none.
use Rattle.std.specs.Prelude.{◌≡◌, ◌≢◌, ℕ, ◌+◌, ◌-◌, ◌<◌, ◌≤◌, List, ◌++◌, length, drop, slice_get, codes, Option, Some, None, Result, Ok, Err}
use Rattle.std.specs.Fmt.{decimal}
use Rattle.std.specs.Global.{Vec}
use Rattle.std.specs.List.{AllByRecursion}
use Rattle.us_output.specs.declared.rows.Row.{Row}
use Rattle.us_reports.specs.declared.report_faults.ReportFault.{ReportFault}
use Rattle.us_reports.specs.declared.report_faults.ReportFault.TheVariants as fault
use Rattle.us_output.specs.Lines.{text_of}
use Rattle.us_output.specs.Files.{lines}
use Rattle.us_reports.specs.Rows.{IsRow}

-- the bytes are the lines of these rows
pub record IsReport (bytes : List ℕ) (all : List Row) : Type 0 where
  pub each : AllByRecursion IsRow all
  pub spelled : bytes ≡ lines all

-- no line of a row stands in front
abbrev pub BeginsNoLine : List ℕ → Type 0
BeginsNoLine bytes = (row : Row) (more : List ℕ) → IsRow row → bytes ≢ text_of row ++ more

-- this place is behind the last line feed, or 0 where there is none
pub record IsLinesEnd (bytes : List ℕ) (end : ℕ) : Type 0 where
  pub last : 0 < end → slice_get bytes (end - 1) ≡ Some 10
  pub none : (at : ℕ) → end ≤ at → slice_get bytes at ≢ Some 10

-- the line of this row stands at a place, and `next` is the place behind it
pub record IsLineAt (bytes : List ℕ) (from : ℕ) (row : Row) (next : ℕ) : Type 0 where
  pub is : IsRow row
  pub spelled : drop from bytes ≡ text_of row ++ drop next bytes
  pub behind : next ≡ from + length (text_of row)

-- what is answered of a place: the line that stands there and the place behind it, or that no line does
abbrev pub AnswersAt : List ℕ → ℕ → Option (Row × ℕ) → Type 0
AnswersAt bytes from (Some found) = IsLineAt bytes from found.0 found.1
AnswersAt bytes from None = BeginsNoLine (drop from bytes)

-- the line of this number, counted from 1, is the first that is of no row: the lines before it are, and bytes stand behind
-- them that begin with no line
pub record IsFirstBad (bytes : List ℕ) (number : ℕ) : Type 0 where
  pub before : List Row
  pub rest : List ℕ
  pub each : AllByRecursion IsRow before
  pub spelled : bytes ≡ lines before ++ rest
  pub place : length before + 1 ≡ number
  pub some : 0 < length rest
  pub bad : BeginsNoLine rest

-- what is answered of the bytes of a report; of want of memory this says nothing
abbrev pub Answers : List ℕ → Result (Vec Row) ReportFault → Type 0
Answers bytes (Ok rows) = IsReport bytes rows.items
Answers bytes (Err (fault.Line number)) = IsFirstBad bytes number
Answers bytes (Err fault.NoMemory) = Unit {0}

-- the same of rows, or of the number of a line
abbrev pub IsReading : List ℕ → Result (List Row) ℕ → Type 0
IsReading bytes (Ok all) = IsReport bytes all
IsReading bytes (Err number) = IsFirstBad bytes number

-- Bytes have one reading: they are the lines of no other rows, and where a line is bad, no other is the first bad one.
abbrev pub OneReading : Type 0
OneReading = (bytes : List ℕ) (a b : Result (List Row) ℕ) → IsReading bytes a → IsReading bytes b → a ≡ b

-- the text of a fault
abbrev pub fault_text : ReportFault → List ℕ
fault_text (fault.Line number) = codes "line " ++ decimal number ++ codes " is none of a report"
fault_text fault.NoMemory = codes "out of memory"
