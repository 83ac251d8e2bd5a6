-- P6, at the end of a report: one F line for each cluster, with what its other lines leave of it, one A line for each flow
-- that tells its activity, with what its last mark says, and one U line.
use Rattle.std.specs.Prelude.{ℕ, ◌-◌, ◌==◌, ◌&&◌, nat_eq, if◌then◌else◌, Bool, true, List, [], ◌∷◌, length, fold, filter, count_by, Option}
use Rattle.std.specs.List.{list_all, list_any}
use Rattle.std.specs.Option.{option_eq}
use Rattle.us_flows.specs.Tables.{FlowTable, Tables}
use Rattle.us_flows.specs.Clusters.{Turn, table_order, tells_activity}
use Rattle.us_bucket.specs.Levels.{Level, full, refilled, spent, units_in}
use Rattle.us_calendar.specs.Activity.{hears}
use Rattle.us_calendar.specs.Entries.{WordedFlow, with_words}
use Rattle.us_output.specs.declared.rows.FinalActivity.{FinalActivity}
use Rattle.us_output.specs.declared.rows.FinalState.{FinalState}
use Rattle.us_output.specs.declared.rows.Row.{Row}
use Rattle.us_output.specs.declared.rows.TraceCounts.{TraceCounts}
use Rattle.us_reports.specs.declared.place.Place.{Place}
use Rattle.us_lawful.specs.Runs.{Run, Judged, activities_in, finals_in, counts_in, counts_told}
use Rattle.us_lawful.specs.Rates.{flow_credits}
use Rattle.us_lawful.specs.Credits.{credited_within, asked_within}

-- a bucket after the credits of some rounds: each takes its bytes, and between two rounds it grows
unfoldable pub level_left : ℕ → List ℕ → Level → Level
level_left ticks [] l = l
level_left ticks (bytes ∷ []) l = spent bytes l
level_left ticks (bytes ∷ next ∷ credits) l = level_left ticks (next ∷ credits) (refilled ticks (spent bytes l))

-- what is left in the bucket of a flow, by its lines
abbrev pub units_left : Run → List Row → FlowTable → Option ℕ
units_left run lines flow =
    units_in (level_left run.tables.round_ticks (flow_credits run lines flow.id) (full flow.rate flow.burst))

-- the F line of a cluster: all that it asked for less all that it was credited, and its flow's bucket
abbrev pub final_of : Run → List Row → Turn → FinalState
final_of run lines turn = record {
  flow = turn.cluster.flow.id;
  cluster = turn.cluster.list;
  outstanding = asked_within run run.rounds turn.number - credited_within lines run.rounds turn.cluster;
  units = units_left run lines turn.cluster.flow;
}

abbrev pub is_same_final : FinalState → FinalState → Bool
is_same_final f other =
    (f.flow == other.flow) && (f.cluster == other.cluster) && (f.outstanding == other.outstanding)
    && option_eq nat_eq f.units other.units

abbrev pub is_final_of : Turn → FinalState → Bool
is_final_of turn f = (f.flow == turn.cluster.flow.id) && (f.cluster == turn.cluster.list)

-- a cluster has one F line, which is right
abbrev pub final_holds : Run → List Row → Turn → Bool
final_holds run lines turn =
    (count_by (is_final_of turn) (finals_in lines) == 1)
    && list_any (is_same_final (final_of run lines turn)) (finals_in lines)

-- F lines with the id `third` are of clusters, and each cluster of the flow with this id has its own
abbrev pub flow_finals_hold : Run → List Row → ℕ → Bool
flow_finals_hold run lines id =
    list_all (λ f. if f.flow == id then list_any (λ turn. is_final_of turn f) (table_order run.tables) else true)
    (finals_in lines)
    && list_all (λ turn. if turn.cluster.flow.id == id then final_holds run lines turn else true) (table_order run.tables)

-- so it is behind the last round, where the channel is 0
abbrev pub finals_hold : Run → Judged → Place → Bool
finals_hold run judged p =
    if (p.round == run.rounds) && (p.channel == 0) then flow_finals_hold run judged.lines p.third else true

-- the flows that tell their activity, each with the number of its silent word
abbrev pub talking : Tables → List WordedFlow
talking t = filter (λ f. tells_activity f.flow.kind) (with_words 0 t.flows)

-- the A line of such a flow: it is active at first, and then as it was or as a cut says, one cut behind another
abbrev pub activity_of : Run → WordedFlow → FinalActivity
activity_of run f = record { flow = f.flow.id; active = if fold (hears f.word) true run.cuts then 1 else 0 }

abbrev pub is_same_activity : FinalActivity → FinalActivity → Bool
is_same_activity a other = (a.flow == other.flow) && (a.active == other.active)

-- such a flow has one A line, which is right
abbrev pub activity_holds : Run → List Row → WordedFlow → Bool
activity_holds run lines f =
    (count_by (λ a. a.flow == f.flow.id) (activities_in lines) == 1)
    && list_any (is_same_activity (activity_of run f)) (activities_in lines)

-- A lines with the id `third` are of such flows, and the one with this id has its own
abbrev pub flow_activity_holds : Run → List Row → ℕ → Bool
flow_activity_holds run lines id =
    list_all (λ a. if a.flow == id then list_any (λ f. f.flow.id == id) (talking run.tables) else true) (activities_in lines)
    && list_all (λ f. if f.flow.id == id then activity_holds run lines f else true) (talking run.tables)

-- so it is behind the last round, where the channel is 0
abbrev pub activities_hold : Run → Judged → Place → Bool
activities_hold run judged p =
    if (p.round == run.rounds) && (p.channel == 0) then flow_activity_holds run judged.lines p.third else true

abbrev pub is_same_counts : TraceCounts → TraceCounts → Bool
is_same_counts c other =
    (c.unknown == other.unknown) && (c.not_requestable == other.not_requestable) && (c.late == other.late)

-- there is one U line, which tells the run's counts, behind the last round, where the channel and `third` are 0
abbrev pub counts_hold : Run → Judged → Place → Bool
counts_hold run judged p =
    if (p.round == run.rounds) && (p.channel == 0) && (p.third == 0)
    then (length (counts_in judged.lines) == 1)
    && list_any (is_same_counts (counts_told run.counts)) (counts_in judged.lines)
    else true
