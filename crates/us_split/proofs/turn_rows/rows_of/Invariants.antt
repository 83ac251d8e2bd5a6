use Rattle.std.proofs.Common.{◌≡◌, ◌++◌, drop}
use Rattle.us_flows.specs.Clusters.{turns_of}
use Rattle.us_split.specs.TurnRows.{rows_from}
use Rattle.us_split.proofs.turn_rows.rows_of.Given as goal

-- the other turns are still to come
abbrev pub invariant-loop-place : goal.invariant-loop-place
invariant-loop-place l =
    l.rows.items ++ rows_from l.config.channels l.place (drop l.place (turns_of l.config)) ≡
    rows_from l.config.channels 0 (turns_of l.config)
