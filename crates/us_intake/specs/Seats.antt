-- Intakes and seats, as their callers know them (ours).
use Rattle.std.specs.Prelude.{◌≡◌, ℕ, ◌+◌, ◌-◌, ◌^◌, ◌<◌, ◌≤◌, ◌⊎◌, Bool, true, false, ◌||◌, List, [], ◌∷◌, ◌++◌, length, sum, slice_index}
use Rattle.std.specs.List.{range_with_len}
use Rattle.atomic_table.specs.Seated.{TableId}
use Rattle.us_slots.specs.Lists.{added}
use Rattle.us_intake.specs.Tallies.{empty_tally, raised}

-- an intake: which one it is, how many words it has, each called a cluster, and the bytes that may be submitted in all
pub record Intake : Type 0 where
  pub id : TableId
  pub clusters : ℕ
  pub quota : ℕ

-- a seat: the bytes that it may submit in all, whether it takes, and what it and the seats joined into it submitted and
-- took
pub record Seat : Type 0 where
  pub intake : Intake
  pub quota : ℕ
  pub takes : Bool
  pub submitted : List ℕ
  pub taken : List ℕ
  -- in how many additions they submitted, and the words that they swapped to take, in their order
  pub additions : ℕ
  pub swapped : List ℕ

-- the bytes that a seat has submitted, of all clusters
abbrev pub spent : Seat → ℕ
spent seat = sum seat.submitted

-- the seat that an intake is opened with
abbrev pub first_seat : Intake → Seat
first_seat intake =
    record {
      intake = intake;
      quota = intake.quota;
      takes = true;
      submitted = empty_tally intake.clusters;
      taken = empty_tally intake.clusters;
      additions = 0;
      swapped = [];
    }

-- a seat that is split off with so many bytes
abbrev pub new_seat : Intake → ℕ → Seat
new_seat intake quota =
    record {
      intake = intake;
      quota = quota;
      takes = false;
      submitted = empty_tally intake.clusters;
      taken = empty_tally intake.clusters;
      additions = 0;
      swapped = [];
    }

-- no bytes, or all that the seat may submit, or more than it may yet
abbrev pub IsBadSplit : Seat → ℕ → Type 0
IsBadSplit seat quota = (quota ≡ 0) ⊎ ((seat.quota ≤ quota) ⊎ (seat.quota < spent seat + quota))

-- the seat that another one was split off
abbrev pub seat_after_split : Seat → ℕ → Seat
seat_after_split seat quota = record seat { quota = seat.quota - quota }

-- two seats of an intake made one; one of them at most has swapped words
abbrev pub joined_seat : Seat → Seat → Seat
joined_seat one other =
    record {
      intake = one.intake;
      quota = one.quota + other.quota;
      takes = one.takes || other.takes;
      submitted = added one.submitted other.submitted;
      taken = added one.taken other.taken;
      additions = one.additions + other.additions;
      swapped = one.swapped ++ other.swapped;
    }

-- the seat that submitted so many bytes of a cluster, by one addition
abbrev pub seat_after_submit : Seat → ℕ → ℕ → Seat
seat_after_submit seat cluster bytes =
    record seat { submitted = raised seat.submitted cluster bytes; additions = seat.additions + 1 }

-- the seat that took what one word held, by one swap
abbrev pub seat_after_take : Seat → ℕ → ℕ → Seat
seat_after_take seat cluster bytes =
    record seat { taken = raised seat.taken cluster bytes; swapped = seat.swapped ++ cluster ∷ [] }

-- the seat that took what a cut found, by one swap of each word, in the order of the clusters
abbrev pub seat_after_cut : Seat → List ℕ → Seat
seat_after_cut seat cuts =
    record seat { taken = added seat.taken cuts; swapped = seat.swapped ++ range_with_len 0 (length cuts) }

-- the whole quota is this seat's
abbrev pub IsWhole : Seat → Type 0
IsWhole seat = seat.quota ≡ seat.intake.quota

-- the most clusters of an intake, and the bytes that no quota reaches
abbrev pub max_clusters : ℕ
max_clusters = 2048

abbrev pub quota_limit : ℕ
quota_limit = 2 ^ 62

pub record IsIntake (intake : Intake) : Type 0 where
  pub some_clusters : 1 ≤ intake.clusters
  pub few_clusters : intake.clusters ≤ max_clusters
  pub some : 1 ≤ intake.quota
  pub small : intake.quota < quota_limit

-- what is known of every seat, whatever the others do
pub record IsSeat (seat : Seat) : Type 0 where
  pub intake : IsIntake seat.intake
  pub submitted_row : length seat.submitted ≡ seat.intake.clusters
  pub taken_row : length seat.taken ≡ seat.intake.clusters
  pub some : 1 ≤ seat.quota
  pub of_whole : seat.quota ≤ seat.intake.quota
  pub within : spent seat ≤ seat.quota
  pub taken_within : sum seat.taken ≤ seat.intake.quota
  pub idle : seat.takes ≡ false → (cluster : ℕ) → slice_index seat.taken cluster ≡ 0
  pub no_swap : seat.takes ≡ false → seat.swapped ≡ []
  pub whole_takes : IsWhole seat → seat.takes ≡ true
