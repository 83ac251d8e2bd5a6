-- What fails of the rule of calendars' lines, by how often numbers are named.
use Rattle.std.specs.Prelude.{◌≡◌, ℕ, ◌<◌, ◌≤◌, ◌+◌, ◌==◌, nat_le, nat_lt, if◌then◌else◌, Bool, true, false, List, Option, Some, None, count_by}
use Rattle.std.specs.List.{list_any}
use Rattle.us_calendar.specs.Occurrences.{comes}
use Rattle.us_output.specs.declared.rows.Row.{Row}
use Rattle.us_reports.specs.declared.place.Place.{Place}
use Rattle.us_lawful.specs.Runs.{Run}
use Rattle.us_lawful.specs.CalendarLines.{ChannelEntry, closes, closing_round, speaks_in}
use Rattle.us_reports.specs.Breaches.{At}
use Rattle.us_map_rules.specs.declared.naming.CalendarLine.{CalendarLine}
use Rattle.us_map_rules.specs.declared.told.OpenLine.{OpenLine}
use Rattle.us_map_rules.specs.Naming.{calendar_line, tells_right}

-- how often a number stands in a list
abbrev pub times_in : List ℕ → ℕ → ℕ
times_in ns n = count_by (λ m. m == n) ns

-- how often an occurrence is named where each with a number below `next` is, and these others are named besides
abbrev pub times_named : ℕ → List ℕ → ℕ → ℕ
times_named next others n = times_in others n + (if nat_lt n next then 1 else 0)

-- Of numbers of which some come: the first from one on that does,
pub record IsDue (come : ℕ → Bool) (from due : ℕ) : Type 0 where
  pub comes : come due ≡ true
  pub later : from ≤ due
  pub none : (m : ℕ) → from ≤ m → m < due → come m ≡ false

-- and the first that does and isn't named once
pub record IsFirstWrong (come : ℕ → Bool) (times : ℕ → ℕ) (number : ℕ) : Type 0 where
  pub comes : come number ≡ true
  pub wrong : times number ≡ 1 → ⊥
  pub before : (m : ℕ) → m < number → come m ≡ true → times m ≡ 1

-- A line of a calendar that isn't right by itself fails where it is.
abbrev pub FailsAsLine : Run → List ChannelEntry → Row → Option CalendarLine → Place → Type 0
FailsAsLine run es row None p = ⊥
FailsAsLine run es row (Some line) p = At line.at (list_any (tells_right run row line) es) p

abbrev pub LineFails : Run → List ChannelEntry → Row → Place → Type 0
LineFails run es row p = FailsAsLine run es row (calendar_line row) p

-- whether an occurrence of an entry comes
abbrev pub comes_in : Run → ChannelEntry → ℕ → Bool
comes_in run l = comes l.entry (speaks_in run l.entry)

-- Of an entry, where it is told how often each occurrence is named: one that comes and closes isn't named once,
pub record ClosingFails (run : Run) (l : ChannelEntry) (times : ℕ → ℕ) (p : Place) : Type 0 where
  pub number : ℕ
  pub come : comes_in run l number ≡ true
  pub closes : closes run l.entry number ≡ true
  pub place : p ≡ record { round = closing_round run.tables l.entry number; channel = l.channel.id; third = l.entry.id }
  pub wrong : times number ≡ 1 → ⊥

-- or an open one is named by several lines, which fail where they are
abbrev pub OpenFails : (ℕ → ℕ) → OpenLine → Place → Type 0
OpenFails times o p = At o.at (nat_le (times o.number) 1) p
