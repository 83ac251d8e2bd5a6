use Rattle.std.proofs.Common.{◌≡◌, replicate}
use Rattle.us_map_rules.specs.Told.{nothing}
use Rattle.us_map_rules.proofs.calendar_lines.CalendarLines.new.Given as goal

-- nothing of each so far
abbrev pub invariant-loop : goal.invariant-loop
invariant-loop l = l.told.items ≡ replicate l.counter nothing
