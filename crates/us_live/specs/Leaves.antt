-- What stands where no round was made, for each reason.
use Rattle.std.specs.Prelude.{◌≡◌, ℕ, ◌⊎◌, List}
use Rattle.us_intake.specs.Seats.{Seat}
use Rattle.us_live.specs.Lives.{Live, failed_live, IsCut}
use Rattle.us_live.specs.declared.faults.LiveFault.{LiveFault}
use Rattle.us_live.specs.declared.faults.LiveFault.TheVariants as fault

-- everything is as it was
abbrev pub AreSame : Live → Live → Seat → Seat → Type 0
AreSame live after seat next = (after ≡ live) × (next ≡ seat)

-- After want of memory the log is what it was, and no round is made any more; the seat took what the round had cut, if
-- it had. The faults of opening don't come.
abbrev pub Leaves : Live → Live → Seat → Seat → LiveFault → Type 0
Leaves live after seat next fault.Failed = AreSame live after seat next
Leaves live after seat next fault.Done = AreSame live after seat next
Leaves live after seat next fault.Workers = AreSame live after seat next
Leaves live after seat next fault.NoMemory =
    (after ≡ failed_live live) × ((next ≡ seat) ⊎ ((cut : List ℕ) × IsCut seat next cut))
Leaves live after seat next fault.Rounds = ⊥
Leaves live after seat next fault.NoCluster = ⊥
Leaves live after seat next fault.Quota = ⊥
