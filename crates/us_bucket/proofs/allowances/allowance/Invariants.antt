use Rattle.std.proofs.Common.{◌≡◌, drop}
use Rattle.std.specs.Prelude.{◌↔◌}
use Rattle.us_bucket.specs.Levels.{full}
use Rattle.us_bucket.specs.Laws.{level_after, HasEach}
use Rattle.us_bucket.proofs.allowances.allowance.Given as goal

-- the bucket had all credits so far, and ends where the bucket of round 0 does
abbrev pub invariant-loop-event : goal.invariant-loop-event
invariant-loop-event l =
    let rest = drop l.event-index l.events in
    let first = full l.rate l.burst in record {
      has : HasEach l.round_ticks l.events first ↔ HasEach l.round_ticks rest l.bucket;
      ends : level_after l.round_ticks rest l.bucket ≡ level_after l.round_ticks l.events first;
    }
