-- The account of an intake: what holds of its words and of all its seats between any two atomic steps, whatever threads
-- do (ours). The code's table of words is of this rule, so that each step is proved to keep it.
use Rattle.std.specs.Prelude.{◌≡◌, ℕ, ◌+◌, ◌-◌, ◌^◌, ◌<◌, ◌≤◌, ◌⊎◌, Bool, true, false, ◌||◌, List, [], ◌∷◌, ◌++◌, length, sum, sum_by, count_by, slice_index, slice_get, Some}
use Rattle.us_slots.specs.Lists.{added}
use Rattle.us_intake.specs.Tallies.{empty_tally, raised}

-- what an intake was opened for
pub record Terms : Type 0 where
  pub clusters : ℕ
  pub quota : ℕ

-- what one seat has in the account; `whole` is the intake's quota
pub record Part : Type 0 where
  pub whole : ℕ
  pub quota : ℕ
  pub takes : Bool
  pub submitted : List ℕ
  pub taken : List ℕ
  -- in how many additions it submitted, and the words that it swapped to take, in their order
  pub additions : ℕ
  pub swapped : List ℕ
  -- whether it was joined, and no load has looked at it since
  pub looks : Bool

-- what a join leaves of the seat that goes
abbrev pub spent_part : Part
spent_part =
    record {
      whole = 0;
      quota = 0;
      takes = false;
      submitted = [];
      taken = [];
      additions = 0;
      swapped = [];
      looks = false;
    }

-- a seat that stands: it has some of the quota and keeps to it, and where it doesn't take, it has swapped no word and
-- taken nothing
pub record Stands (terms : Terms) (part : Part) : Type 0 where
  pub whole : part.whole ≡ terms.quota
  pub some : 1 ≤ part.quota
  pub within : sum part.submitted ≤ part.quota
  pub idle : part.takes ≡ false → (cluster : ℕ) → slice_index part.taken cluster ≡ 0
  pub no_swap : part.takes ≡ false → part.swapped ≡ []

pub record Account (terms : Terms) (words : List ℕ) (parts : List Part) : Type 0 where
  pub small : terms.quota < 2 ^ 62
  pub row : length words ≡ terms.clusters
  -- the quotas of all seats add up to the intake's
  pub quotas : sum_by (λ part. part.quota) parts ≡ terms.quota
  -- one seat takes
  pub takers : count_by (λ part. part.takes) parts ≡ 1
  -- what is in the word of a cluster and what was taken of it are what was submitted of it
  pub balanced : (cluster : ℕ) →
      slice_index words cluster + sum_by (λ part. slice_index part.taken cluster) parts
      ≡ sum_by (λ part. slice_index part.submitted cluster) parts
  -- each seat stands, or a join has spent it
  pub seats : (seat : ℕ) (part : Part) → slice_get parts seat ≡ Some part → (part ≡ spent_part) ⊎ Stands terms part

-- What the steps make of a seat's part: opening, `submit`, the `swap` of one word by `take` or `cut`, splitting, joining,
-- and the load behind a join.

abbrev pub first_part : Terms → Part
first_part terms =
    record {
      whole = terms.quota;
      quota = terms.quota;
      takes = true;
      submitted = empty_tally terms.clusters;
      taken = empty_tally terms.clusters;
      additions = 0;
      swapped = [];
      looks = false;
    }

abbrev pub part_after_submit : Part → ℕ → ℕ → Part
part_after_submit part cluster bytes =
    record part { submitted = raised part.submitted cluster bytes; additions = part.additions + 1 }

abbrev pub part_after_swap : Part → ℕ → ℕ → Part
part_after_swap part cluster bytes =
    record part { taken = raised part.taken cluster bytes; swapped = part.swapped ++ cluster ∷ [] }

abbrev pub part_after_split : Part → ℕ → Part
part_after_split part quota = record part { quota = part.quota - quota }

-- the part that is split off
abbrev pub new_part : Part → ℕ → Part
new_part part quota =
    record {
      whole = part.whole;
      quota = quota;
      takes = false;
      submitted = empty_tally (length part.submitted);
      taken = empty_tally (length part.submitted);
      additions = 0;
      swapped = [];
      looks = false;
    }

abbrev pub joined_part : Part → Part → Part
joined_part one other =
    record {
      whole = one.whole;
      quota = one.quota + other.quota;
      takes = one.takes || other.takes;
      submitted = added one.submitted other.submitted;
      taken = added one.taken other.taken;
      additions = one.additions + other.additions;
      swapped = one.swapped ++ other.swapped;
      looks = true;
    }

abbrev pub part_after_look : Part → Part
part_after_look part = record part { looks = false }
