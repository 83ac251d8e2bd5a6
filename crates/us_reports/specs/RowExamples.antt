-- What a line of a report may tell, computed by the definitions alone.
use Rattle.std.specs.Prelude.{◌≡◌, true, false, refl}
use Rattle.us_output.specs.declared.rows.EntryWord.TheVariants as words
use Rattle.us_output.specs.declared.rows.Row.TheVariants as rows
use Rattle.us_output.specs.LineExamples.{late_call}
use Rattle.us_reports.specs.Rows.{can_be_told}

-- what is missed is of a calendar
calls_are_missed :
    (can_be_told (rows.Missed late_call) ≡ true)
    × (can_be_told (rows.Missed (record late_call { entry = words.Requested })) ≡ false)
calls_are_missed = (refl, refl)
