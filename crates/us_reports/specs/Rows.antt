-- What a line of a report may tell.
use Rattle.std.specs.Prelude.{◌≡◌, not, Bool, true, false}
use Rattle.us_output.specs.declared.rows.EntryWord.{EntryWord}
use Rattle.us_output.specs.declared.rows.EntryWord.TheVariants as words
use Rattle.us_output.specs.declared.rows.Row.{Row}
use Rattle.us_output.specs.declared.rows.Row.TheVariants as rows
use Rattle.us_output.specs.Lines.{HasFields}

abbrev pub is_requested : EntryWord → Bool
is_requested words.Requested = true
is_requested _ = false

-- what is missed is of a calendar
abbrev pub can_be_told : Row → Bool
can_be_told (rows.Missed m) = not (is_requested m.entry)
can_be_told _ = true

-- what a line may tell
abbrev pub IsRow : Row → Type 0
IsRow row = HasFields row × (can_be_told row ≡ true)
