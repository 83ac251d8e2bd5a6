use Rattle.std.proofs.Common.{◌≡◌, ◌≤◌, ℕ, List, get_or, length, take}
use Rattle.us_output.specs.declared.rows.Row.{Row}
use Rattle.us_reports.specs.Breaches.{Any, IsFirstFailure}
use Rattle.us_map_rules.specs.Told.{AreToldOf, OccurrencesFail, ToldEntry}
use Rattle.us_map_rules.proofs.calendar_lines.entries_breach.Given as goal

-- what is told of the other entries stays; and the first breach of the entries so far
abbrev pub invariant-loop-place : goal.invariant-loop-place
invariant-loop-place l = record {
  long : length l.told.items ≡ length l.entries;
  kept : (k : ℕ) (d : ToldEntry) → l.place ≤ k → get_or l.told.items k d ≡ get_or l.fn.told.items k d;
  first : (lines : List Row) → AreToldOf l.run lines l.entries l.fn.told.items →
      IsFirstFailure l.run.tables.channels (Any (OccurrencesFail l.run lines) (take l.place l.entries)) l.first;
}
