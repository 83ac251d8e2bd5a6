-- The scheduler that callers' threads feed, as its caller knows it (ours).
use Rattle.std.specs.Prelude.{◌≡◌, ℕ, ◌≤◌, true, List, [], ◌∷◌, ◌++◌, length, map, sum_by, slice_index, Option, Some, None, IsSomeAnd}
use Rattle.us_flows.specs.Tables.{Tables}
use Rattle.us_flows.specs.Clusters.{words_of}
use Rattle.us_intake.specs.Seats.{Intake, Seat, IsWhole, seat_after_cut}
use Rattle.us_round.specs.Rounds.{opening, schedule}
use Rattle.us_output.specs.Outputs.{RoundOut, out_of}

pub record Live : Type 0 where
  -- how many words the configuration has, and how many rounds there are in all
  pub clusters : ℕ
  pub rounds : ℕ
  -- the cut of each round so far: the bytes of each word
  pub log : List (List ℕ)
  -- of what the rounds are made: none any more, once memory was wanting in a round
  pub tables : Option Tables

-- before the first round
abbrev pub first_live : Tables → ℕ → Live
first_live t rounds = record { clusters = length (words_of t); rounds = rounds; log = []; tables = Some t }

-- a round of this cut was made
abbrev pub with_entry : Live → List ℕ → Live
with_entry live cut = record live { log = live.log ++ cut ∷ [] }

-- memory was wanting in a round
abbrev pub failed_live : Live → Live
failed_live live = record live { tables = None }

-- the rounds of the schedule over the cuts of a log
abbrev pub rounds_of : Tables → List (List ℕ) → List RoundOut
rounds_of t log = map (out_of t) (schedule (opening t) log)

-- the bytes of a word in all entries of a log
abbrev pub logged : List (List ℕ) → ℕ → ℕ
logged log cluster = sum_by (λ cut. slice_index cut cluster) log

-- an intake with these words, and a seat of it that takes and took at least what is in the log
pub record Feeds (live : Live) (intake : Intake) (seat : Seat) : Type 0 where
  pub clusters : intake.clusters ≡ live.clusters
  pub own : seat.intake ≡ intake
  pub takes : seat.takes ≡ true
  pub took : (cluster : ℕ) → logged live.log cluster ≤ slice_index seat.taken cluster

-- the intake was cut by this seat: what was found is added to what it took, which is then at least what was submitted
-- with it, and for a whole seat all that was submitted
pub record IsCut (seat after : Seat) (cut : List ℕ) : Type 0 where
  pub grown : after ≡ seat_after_cut seat cut
  pub row : length cut ≡ seat.intake.clusters
  pub least : (cluster : ℕ) → slice_index after.submitted cluster ≤ slice_index after.taken cluster
  pub whole : IsWhole seat → after.taken ≡ after.submitted

-- the next round of the schedule over the log was made, of what the seat cut
pub record IsNext (live after : Live) (seat next : Seat) (cut : List ℕ) (out : RoundOut) : Type 0 where
  pub cut_is : IsCut seat next cut
  pub logs : after ≡ with_entry live cut
  pub answer : IsSomeAnd live.tables (λ t. rounds_of t after.log ≡ rounds_of t live.log ++ out ∷ [])
