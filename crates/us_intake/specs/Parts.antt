-- What one step tells of a seat's part, whatever the others are.
use Rattle.std.specs.Prelude.{◌≡◌, ℕ, ◌^◌, ◌<◌, ◌≤◌, true, false, [], sum, slice_index}
use Rattle.us_intake.specs.Accounts.{Part}

pub record Known (part : Part) : Type 0 where
  pub small : part.whole < 2 ^ 62
  pub of_whole : part.quota ≤ part.whole
  pub within : sum part.submitted ≤ part.quota
  pub taken_within : sum part.taken ≤ part.whole
  pub idle : part.takes ≡ false → (cluster : ℕ) → slice_index part.taken cluster ≡ 0
  pub no_swap : part.takes ≡ false → part.swapped ≡ []
  pub whole_takes : part.quota ≡ part.whole → part.takes ≡ true

-- after the swap of a cluster's word: all that the seat submitted of it was taken; with the whole quota, no more was
pub record Covers (part : Part) (cluster : ℕ) : Type 0 where
  pub least : slice_index part.submitted cluster ≤ slice_index part.taken cluster
  pub whole : part.quota ≡ part.whole → slice_index part.taken cluster ≡ slice_index part.submitted cluster
