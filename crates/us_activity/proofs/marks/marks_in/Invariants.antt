use Rattle.std.proofs.Common.{◌≡◌}
use Rattle.std.specs.Prelude.{flat_map}
use Rattle.std.specs.List.{range_with_len}
use Rattle.us_activity.specs.Kept.{round_marks}
use Rattle.us_activity.proofs.marks.marks_in.Given as goal

abbrev pub invariant-loop-round : goal.invariant-loop-round
invariant-loop-round l = l.marks.items ≡ flat_map (round_marks l.silent l.trace) (range_with_len 0 l.round)
