-- What a line of a calendar names: an occurrence of an entry.
use Rattle.std.specs.Prelude.{◌≡◌, ℕ, ◌<◌, ◌+◌, ◌*◌, ◌/◌, ◌^◌, nat_le, nat_lt, ◌&&◌, Bool, if◌then◌else◌, option_map, Option, Some, None}
use Rattle.us_slots.specs.Times.{Timing, start_of}
use Rattle.us_flows.specs.Lawful.{AreTables}
use Rattle.us_flows.specs.Tables.{Tables}
use Rattle.us_requests.specs.Traces.{TraceAsks}
use Rattle.us_activity.specs.Activities.{AreMarksOf}
use Rattle.us_activity.specs.Marks.{Marks}
use Rattle.us_calendar.specs.Occurrences.{ideal}
use Rattle.us_output.specs.declared.rows.Row.{Row}
use Rattle.us_output.specs.declared.rows.Row.TheVariants as rows
use Rattle.us_lawful.specs.Runs.{Run}
use Rattle.us_reports.specs.Rows.{is_requested}
use Rattle.us_reports.specs.declared.place.Place.{Place}
use Rattle.us_lawful.specs.CalendarLines.{ChannelEntry, is_right_line, is_there, round_quarters, speaks_in}
use Rattle.us_calendar.specs.Entries.{Entry}
use Rattle.us_map_rules.specs.declared.naming.CalendarLine.{CalendarLine}
use Rattle.us_map_rules.specs.declared.windows.Occurrence.{Occurrence}
use Rattle.us_map_rules.specs.Listed.{is_called}

-- what is kept of a run: who is active when, and the quarter microseconds of a round and of the run
pub record IsJudged (t : Tables) (v : TraceAsks) (active : Marks) (quarters end : ℕ) : Type 0 where
  pub tables : AreTables t
  pub marks : AreMarksOf t v active
  pub round : quarters ≡ round_quarters t
  pub run : end ≡ v.rounds * quarters
  pub few : end < 2 ^ 49

-- numbers of occurrences that are looked at are below this
abbrev pub numbers : ℕ
numbers = 2 ^ 72

-- where a line of a calendar is, and what it names
abbrev pub calendar_line : Row → Option CalendarLine
calendar_line (rows.Granted g) = if is_requested g.entry then None else Some (record {
  at = record { round = g.round; channel = g.channel; third = g.id };
  entry = g.entry;
  i = g.i;
  k = g.k;
})
calendar_line (rows.Missed m) = Some (record {
  at = record { round = m.round; channel = m.channel; third = m.id };
  entry = m.entry;
  i = m.i;
  k = m.k;
})
calendar_line _ = None

abbrev pub calendar_place : Row → Option Place
calendar_place row = option_map (λ line. line.at) (calendar_line row)

-- the number of the occurrence that it names of an entry
abbrev pub number_in : Entry → CalendarLine → ℕ
number_in e line = line.i * e.grants + line.k

-- it names one that is there
abbrev pub is_of_there : Run → Entry → CalendarLine → Bool
is_of_there run e line = nat_lt line.k e.grants && is_there run e (number_in e line)

abbrev pub tells : Run → ChannelEntry → CalendarLine → Bool
tells run l line = is_called line.entry line.at.third l && is_of_there run l.entry line

abbrev pub number_told : Run → ChannelEntry → CalendarLine → Option ℕ
number_told run l line = if tells run l line then Some (number_in l.entry line) else None

-- and the line is right for it by itself
abbrev pub tells_right : Run → Row → CalendarLine → ChannelEntry → Bool
tells_right run row line l = tells run l line && is_right_line run l (number_in l.entry line) row

-- what is known of an occurrence: when it is ideal, and whether its flow is active then
abbrev pub occurrence : Run → Entry → ℕ → Occurrence
occurrence run e n = record { number = n; ideal = ideal e n; active = speaks_in run e (ideal e n) }

-- Where a window of an entry begins at a time: a minislot begins in it,
abbrev pub starts_from : Timing → Entry → ℕ → ℕ → Bool
starts_from time e begin minislot =
    nat_le begin (start_of time minislot) && nat_le (start_of time minislot) (begin + e.jitter)

-- and the round of the run in which it closes, if it does
abbrev pub closing_from : Run → Entry → ℕ → Option ℕ
closing_from run e begin =
    if nat_lt (begin + e.jitter) (run.rounds * round_quarters run.tables)
    then Some ((begin + e.jitter) / round_quarters run.tables)
    else None
