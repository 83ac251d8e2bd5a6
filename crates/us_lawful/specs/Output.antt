-- The output of a schedule: what each of its rounds gives, and the lines at the end of the report; as texts, and as what is
-- judged.
use Rattle.std.specs.Prelude.{ℕ, List, [], ◌∷◌, ◌++◌, length, map, flat_map}
use Rattle.us_flows.specs.Tables.{Tables}
use Rattle.us_requests.specs.declared.asks.Counts.{Counts}
use Rattle.us_round.specs.Rounds.{opening, schedule, final}
use Rattle.us_output.specs.Outputs.{RoundOut, out_of}
use Rattle.us_round.specs.FinalRows.{final_rows}
use Rattle.us_output.specs.declared.rows.Row.{Row}
use Rattle.us_output.specs.declared.rows.Row.TheVariants as rows
use Rattle.us_output.specs.Files.{records, round_lines, lines}
use Rattle.us_lawful.specs.Runs.{Run, RoundMap, Judged, counts_told}

-- the U line
abbrev pub counts_row : Counts → Row
counts_row counts = rows.Counts (counts_told counts)

-- what each round gives, and the lines at the end of the report
pub record Output : Type 0 where
  pub given : List RoundOut
  pub last : List Row

-- the output of the schedule of these cuts, from the opening on
unfoldable pub output_of : Tables → List (List ℕ) → Counts → Output
output_of t cuts counts = record {
  given = map (out_of t) (schedule (opening t) cuts);
  last = final_rows (final (opening t) cuts) ++ counts_row counts ∷ [];
}

-- the maps file
abbrev pub maps_text : Output → List ℕ
maps_text out = flat_map records out.given

-- the report
abbrev pub report_text : Output → List ℕ
report_text out = flat_map round_lines out.given ++ lines out.last

-- the lines of all rounds
abbrev pub all_rows : List RoundOut → List Row
all_rows given = flat_map (λ out. out.rows) given

-- the MAPs of a round
abbrev pub round_maps : RoundOut → List RoundMap
round_maps out = map (λ body. record { round = out.round; body = body }) out.maps

-- all that is judged of an output
abbrev pub judged_of : Output → Judged
judged_of out = record { maps = flat_map round_maps out.given; lines = all_rows out.given ++ out.last }

-- the run of these cuts
abbrev pub run_of : Tables → List (List ℕ) → Counts → Run
run_of t cuts counts = record { tables = t; rounds = length cuts; cuts = cuts; counts = counts }
