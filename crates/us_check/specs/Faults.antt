-- What faults of the checker are told as.
use Rattle.std.specs.Prelude.{ℕ, List, ◌++◌, codes}
use Rattle.std.specs.Fmt.{decimal}
use Rattle.us_reports.specs.declared.report_faults.ReportFault.{ReportFault}
use Rattle.us_reports.specs.declared.report_faults.ReportFault.TheVariants as report
use Rattle.us_check.specs.declared.faults.CheckFault.{CheckFault}
use Rattle.us_check.specs.declared.faults.CheckFault.TheVariants as fault

-- the code of a fault
abbrev pub code_of : CheckFault → List ℕ
code_of (fault.Report line) = codes "CK1"
code_of fault.NoMemory = codes "CK2"

-- and its text
abbrev pub fault_text : CheckFault → List ℕ
fault_text (fault.Report line) = codes "CK1: line " ++ decimal line ++ codes " is none of a report"
fault_text fault.NoMemory = codes "CK2: out of memory"

-- a line that is none of a report, or want of memory
abbrev pub of_report_fault : ReportFault → CheckFault
of_report_fault (report.Line line) = fault.Report line
of_report_fault report.NoMemory = fault.NoMemory
