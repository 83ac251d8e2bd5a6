-- Laws of a scheduler's log and of the seats of its intake.
use Rattle.std.specs.Prelude.{◌≡◌, ℕ, ◌+◌, false, List, slice_index}
use Rattle.us_flows.specs.Tables.{Tables}
use Rattle.us_output.specs.Outputs.{RoundOut}
use Rattle.us_slots.specs.Lists.{added}
use Rattle.us_intake.specs.Seats.{Intake, Seat, IsSeat, first_seat, seat_after_split, seat_after_submit, joined_seat}
use Rattle.us_live.specs.Lives.{Live, first_live, logged, Feeds, IsNext}

-- A scheduler and the seat that takes, where nothing cuts the intake but rounds of this scheduler: from the opening on, call
-- after call of that seat, each as its clause tells it. What is done with the other seats shows when they are joined. A round
-- that isn't made leaves the log as it was, and is among them if it leaves the seat so too.
pub data CutByRounds (intake : Intake) : Live → Seat → Type 0 where
  opened : (t : Tables) (rounds : ℕ) → CutByRounds intake (first_live t rounds) (first_seat intake)
  submitted : (live : Live) (seat : Seat) (cluster bytes : ℕ) → CutByRounds intake live seat →
      CutByRounds intake live (seat_after_submit seat cluster bytes)
  split : (live : Live) (seat : Seat) (quota : ℕ) → CutByRounds intake live seat →
      CutByRounds intake live (seat_after_split seat quota)
  joined : (live : Live) (seat other : Seat) → CutByRounds intake live seat → IsSeat other →
      other.takes ≡ false → CutByRounds intake live (joined_seat seat other)
  joined_to : (live : Live) (seat other : Seat) → CutByRounds intake live seat → IsSeat other →
      other.takes ≡ false → CutByRounds intake live (joined_seat other seat)
  made : (live after : Live) (seat next : Seat) (cut : List ℕ) (out : RoundOut) → CutByRounds intake live seat →
      IsNext live after seat next cut out → CutByRounds intake after next
  not_made : (live after : Live) (seat next : Seat) → CutByRounds intake live seat → after.log ≡ live.log →
      next ≡ seat → CutByRounds intake after next

-- Then the seat took of each word what is in the log, no more and no less; and where the intake is closed by it, the
-- entries of the log and what is left are all that was submitted.
pub record LogBalances : Type 0 where
  pub took : (intake : Intake) (live : Live) (seat : Seat) → CutByRounds intake live seat → (cluster : ℕ) →
      slice_index seat.taken cluster ≡ logged live.log cluster
  pub closed : (intake : Intake) (live : Live) (seat : Seat) (left : List ℕ) → CutByRounds intake live seat →
      seat.submitted ≡ added seat.taken left → (cluster : ℕ) →
      logged live.log cluster + slice_index left cluster ≡ slice_index seat.submitted cluster

-- what callers do with a seat leaves it fit to be cut by
pub record SeatsFeed : Type 0 where
  pub submitting : (live : Live) (intake : Intake) (seat : Seat) (cluster bytes : ℕ) → Feeds live intake seat →
      Feeds live intake (seat_after_submit seat cluster bytes)
  pub splitting : (live : Live) (intake : Intake) (seat : Seat) (quota : ℕ) → Feeds live intake seat →
      Feeds live intake (seat_after_split seat quota)
  pub joining : (live : Live) (intake : Intake) (seat other : Seat) → Feeds live intake seat → other.intake ≡ intake →
      Feeds live intake (joined_seat seat other) × Feeds live intake (joined_seat other seat)
