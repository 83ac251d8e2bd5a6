-- What a run is judged by, and what is judged (ours).
use Rattle.std.specs.Prelude.{ℕ, List, filter, filter_map, Option, Some, None}
use Rattle.us_codec.specs.Bodies.{MapBody}
use Rattle.us_flows.specs.Tables.{Tables}
use Rattle.us_requests.specs.declared.asks.Counts.{Counts}
use Rattle.us_requests.specs.Traces.{TraceAsks, cuts_in}
use Rattle.us_output.specs.declared.rows.FinalActivity.{FinalActivity}
use Rattle.us_output.specs.declared.rows.FinalState.{FinalState}
use Rattle.us_output.specs.declared.rows.Grant.{Grant}
use Rattle.us_output.specs.declared.rows.Row.{Row}
use Rattle.us_output.specs.declared.rows.Row.TheVariants as rows
use Rattle.us_output.specs.declared.rows.TraceCounts.{TraceCounts}
use Rattle.us_reports.specs.Rows.{is_requested}

-- a run: its tables, the number of its rounds, what each round cuts, in bytes by word, and how many rows of the trace are
-- neither requests nor marks
pub record Run : Type 0 where
  pub tables : Tables
  pub rounds : ℕ
  pub cuts : List (List ℕ)
  pub counts : Counts

-- the run of such a trace
abbrev pub run_in : Tables → TraceAsks → Run
run_in t v = record { tables = t; rounds = v.rounds; cuts = cuts_in t v; counts = v.counts }

-- a MAP, and the round that it is for
pub record RoundMap : Type 0 where
  pub round : ℕ
  pub body : MapBody

-- what is judged: MAPs and lines, each in the order of its file
pub record Judged : Type 0 where
  pub maps : List RoundMap
  pub lines : List Row

-- Lines by their kinds.

abbrev pub as_grant : Row → Option Grant
as_grant (rows.Granted grant) = Some grant
as_grant _ = None

abbrev pub as_final : Row → Option FinalState
as_final (rows.Final state) = Some state
as_final _ = None

abbrev pub as_activity : Row → Option FinalActivity
as_activity (rows.Activity activity) = Some activity
as_activity _ = None

abbrev pub as_counts : Row → Option TraceCounts
as_counts (rows.Counts counts) = Some counts
as_counts _ = None

-- the G lines,
abbrev pub grants_in : List Row → List Grant
grants_in lines = filter_map as_grant lines

-- those of requests,
abbrev pub requested_in : List Row → List Grant
requested_in lines = filter (λ g. is_requested g.entry) (grants_in lines)

-- the F lines, the A lines, and the U lines
abbrev pub finals_in : List Row → List FinalState
finals_in lines = filter_map as_final lines

abbrev pub activities_in : List Row → List FinalActivity
activities_in lines = filter_map as_activity lines

abbrev pub counts_in : List Row → List TraceCounts
counts_in lines = filter_map as_counts lines

-- what a U line tells of these counts
abbrev pub counts_told : Counts → TraceCounts
counts_told counts =
    record { unknown = counts.unknown; not_requestable = counts.not_requestable; late = counts.late }
