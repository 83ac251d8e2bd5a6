-- How the code's seats and intakes are kept.
use Rattle.std.specs.Prelude.{◌≡◌, ℕ, Bool, true, false, List, [], sum}
use Rattle.atomic_table.specs.Seated.{TableId}
use Rattle.atomic_table.specs.Table.{Me}
use Rattle.us_intake.specs.Seats.{Intake, Seat, IsIntake, IsSeat}
use Rattle.us_intake.specs.Accounts.{Terms, Part}

-- the seat of a table with this part
abbrev pub seat_at : TableId → Part → Seat
seat_at id part =
    record {
      intake = record { id = id; clusters = id.words; quota = part.whole };
      quota = part.quota;
      takes = part.takes;
      submitted = part.submitted;
      taken = part.taken;
      additions = part.additions;
      swapped = part.swapped;
    }

-- the seat's fields are what its part in the account says, of which it keeps what was submitted as one number, and what
-- was taken where it takes; and where it was joined, a load has looked at it
pub record IsInside {S : Type 0} (id : TableId) (me : Me S Part) (quota bytes_spent : ℕ) (takes : Bool)
    (taken : List ℕ) : Type 0 where
  pub bare : me.1 ≡ []
  pub same_quota : quota ≡ me.0.quota
  pub same_spent : bytes_spent ≡ sum me.0.submitted
  pub same_takes : takes ≡ me.0.takes
  pub same_taken : takes ≡ true → taken ≡ me.0.taken
  pub no_taken : takes ≡ false → taken ≡ []
  pub looked : me.0.looks ≡ false
  pub known : IsSeat (seat_at id me.0)

abbrev pub intake_at : TableId → ℕ → Intake
intake_at id quota = record { id = id; clusters = id.words; quota = quota }

-- the table was made for what the intake says
pub record IsInsideIntake (id : TableId) (key : Terms) (quota : ℕ) : Type 0 where
  pub same_clusters : key.clusters ≡ id.words
  pub same_quota : key.quota ≡ quota
  pub no_slots : id.slots ≡ 0
  pub known : IsIntake (intake_at id quota)
