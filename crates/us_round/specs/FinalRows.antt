-- The last lines of a report (ours): what a state tells behind the last round.
use Rattle.std.specs.Prelude.{ℕ, ◌==◌, Bool, if◌then◌else◌, List, ◌++◌, map, zip, slice_index, Option, None, option_and_then}
use Rattle.std.specs.List.{find}
use Rattle.us_flows.specs.Tables.{FlowTable}
use Rattle.us_flows.specs.Clusters.{table_order, tells_activity}
use Rattle.us_calendar.specs.Calendars.{activity_in}
use Rattle.us_output.specs.Outputs.{activity_rows, final_row}
use Rattle.us_output.specs.declared.rows.Row.{Row}
use Rattle.us_round.specs.Rounds.{State}

-- what the calendar of the channel with this id knows of the activity of the flow with that id,
abbrev pub activity_on : State → ℕ → ℕ → Option Bool
activity_on s channel flow =
    option_and_then (λ pair. activity_in flow pair.1)
    (find (λ pair. pair.0.id == channel) (zip s.tables.channels s.calendars))

-- and whether a flow is active, if it tells that: its first channel knows
abbrev pub activity_of : State → FlowTable → Option Bool
activity_of s flow = if tells_activity flow.kind then activity_on s (slice_index flow.channels 0) flow.id else None

-- the last lines of a state: the F lines, and behind them the A lines, both in table order
unfoldable pub final_rows : State → List Row
final_rows state =
    map (final_row state.outstanding state.buckets) (table_order state.tables)
    ++ activity_rows state.tables.flows (map (activity_of state) state.tables.flows)
