-- What is kept of lines.
use Rattle.std.specs.Prelude.{◌≡◌, ℕ, ◌+◌, ◌<◌, not, ◌&&◌, Bool, true, if◌then◌else◌, List, [], ◌∷◌, ◌++◌, All, filter_map, length, slice_index_or, Option, Some, None, option_and_then}
use Rattle.std.specs.Option.{option_to_list}
use Rattle.us_output.specs.declared.rows.Row.{Row}
use Rattle.us_reports.specs.declared.place.Place.{Place}
use Rattle.us_lawful.specs.Runs.{Run}
use Rattle.us_lawful.specs.CalendarLines.{ChannelEntry, closes, is_there, times}
use Rattle.us_reports.specs.Breaches.{Any, Either, IsFirstFailure}
use Rattle.us_map_rules.specs.declared.naming.CalendarLine.{CalendarLine}
use Rattle.us_map_rules.specs.declared.told.OpenLine.{OpenLine}
use Rattle.us_map_rules.specs.Naming.{calendar_line, number_in, number_told, tells}
use Rattle.us_map_rules.specs.Failures.{ClosingFails, LineFails, OpenFails, comes_in, times_in, times_named}

-- what lines tell of an entry: each occurrence that comes and has a number below `next` is named, and these others are named
-- besides; and those lines that name one that is still open
pub record ToldEntry : Type 0 where
  pub next : ℕ
  pub others : List ℕ
  pub open_lines : List OpenLine

abbrev pub nothing : ToldEntry
nothing = record { next = 0; others = []; open_lines = [] }

abbrev pub times_told : ToldEntry → ℕ → ℕ
times_told t n = times_named t.next t.others n

-- what a line tells of an entry: the number of an occurrence that is there,
abbrev pub told_number : Run → ChannelEntry → Row → Option ℕ
told_number run l row = option_and_then (number_told run l) (calendar_line row)

-- and where it stands, if that is still open
abbrev pub open_told : Run → ChannelEntry → CalendarLine → Option OpenLine
open_told run l line =
    if tells run l line && not (closes run l.entry (number_in l.entry line))
    then Some (record { number = number_in l.entry line; at = line.at })
    else None

abbrev pub open_line_of : Run → ChannelEntry → Row → Option OpenLine
open_line_of run l row = option_and_then (open_told run l) (calendar_line row)

-- it is told by these lines
pub record IsTold (run : Run) (lines : List Row) (l : ChannelEntry) (t : ToldEntry) : Type 0 where
  pub named : (n : ℕ) → is_there run l.entry n ≡ true → times_told t n ≡ times l.entry n lines
  pub come : All (λ n. comes_in run l n ≡ true) t.others
  pub open_lines : t.open_lines ≡ filter_map (open_line_of run l) lines

-- of occurrences of which some come, one more is named,
pub record IsNamed (comes : ℕ → Bool) (number : ℕ) (t u : ToldEntry) : Type 0 where
  pub named : (n : ℕ) → comes n ≡ true → times_told u n ≡ times_told t n + times_in (number ∷ []) n
  pub come : All (λ n. comes n ≡ true) t.others → All (λ n. comes n ≡ true) u.others
  pub open_lines : u.open_lines ≡ t.open_lines

-- and what a line tells is told
pub record IsToldMore (run : Run) (l : ChannelEntry) (row : Row) (t u : ToldEntry) : Type 0 where
  pub named : (n : ℕ) → comes_in run l n ≡ true →
      times_told u n ≡ times_told t n + times_in (option_to_list (told_number run l row)) n
  pub come : All (λ n. comes_in run l n ≡ true) t.others → All (λ n. comes_in run l n ≡ true) u.others
  pub open_lines : u.open_lines ≡ t.open_lines ++ option_to_list (open_line_of run l row)

-- what fails of an entry, where these are all lines
abbrev pub OccurrencesFail : Run → List Row → ChannelEntry → Place → Type 0
OccurrencesFail run lines l =
    Either (ClosingFails run l (λ n. times l.entry n lines))
    (Any (OpenFails (λ n. times l.entry n lines)) (filter_map (open_line_of run l) lines))

-- of all entries
abbrev pub AreToldOf : Run → List Row → List ChannelEntry → List ToldEntry → Type 0
AreToldOf run lines es ts =
    (place : ℕ) (l : ChannelEntry) (t : ToldEntry) → place < length es →
    IsTold run lines (slice_index_or es place l) (slice_index_or ts place t)

-- and the first place with a line that isn't right by itself
pub record CalendarLines : Type 0 where
  pub run : Run
  pub entries : List ChannelEntry
  pub told : List ToldEntry
  pub first : Option Place

-- this is kept of these lines
pub record AreTold (lines : List Row) (c : CalendarLines) : Type 0 where
  pub told : AreToldOf c.run lines c.entries c.told
  pub first : IsFirstFailure c.run.tables.channels (Any (LineFails c.run c.entries) lines) c.first
