-- Laws of the account.
use Rattle.std.specs.Prelude.{◌≡◌, ◌≢◌, ℕ, ◌+◌, ◌^◌, ◌≤◌, ◌<◌, true, List, [], ◌∷◌, ◌++◌, length, sum, sum_by, slice_index, slice_set, slice_get, Some}
use Rattle.us_intake.specs.Tallies.{empty_tally, raised}
use Rattle.us_intake.specs.Accounts.{Terms, Part, spent_part, Stands, Account, first_part, part_after_submit, part_after_swap, part_after_split, new_part, joined_part, part_after_look}

-- a seat with the whole quota takes, and no other one stands
abbrev pub WholeIsAlone : Type 0
WholeIsAlone =
    (terms : Terms) (words : List ℕ) (parts : List Part) (seat : ℕ) (part : Part) → Account terms words parts →
    slice_get parts seat ≡ Some part → part.quota ≡ terms.quota →
    (part.takes ≡ true)
    × ((other : ℕ) (its : Part) → other ≢ seat → slice_get parts other ≡ Some its → its ≡ spent_part)

-- where a seat has the whole quota, all that was submitted of a cluster stands in its part, and is what the word holds
-- and what this seat took
abbrev pub WholeBalances : Type 0
WholeBalances =
    (terms : Terms) (words : List ℕ) (parts : List Part) (seat : ℕ) (part : Part) → Account terms words parts →
    slice_get parts seat ≡ Some part → part.quota ≡ terms.quota → (cluster : ℕ) →
    (sum_by (λ its. slice_index its.submitted cluster) parts ≡ slice_index part.submitted cluster)
    × (slice_index words cluster + slice_index part.taken cluster ≡ slice_index part.submitted cluster)

-- an account is opened, and each step of a seat that stands keeps it
pub record StepsKeepAccount : Type 0 where
  pub opening : (terms : Terms) → 1 ≤ terms.quota → terms.quota < 2 ^ 62 →
      Account terms (empty_tally terms.clusters) (first_part terms ∷ [])
  pub submitting : (terms : Terms) (words : List ℕ) (parts : List Part) (seat : ℕ) (part : Part) (cluster bytes : ℕ) →
      Account terms words parts → slice_get parts seat ≡ Some part → Stands terms part → cluster < terms.clusters →
      cluster < length part.submitted → sum part.submitted + bytes ≤ part.quota →
      Account terms (raised words cluster bytes) (slice_set parts seat (part_after_submit part cluster bytes))
  pub taking : (terms : Terms) (words : List ℕ) (parts : List Part) (seat : ℕ) (part : Part) (cluster : ℕ) →
      Account terms words parts → slice_get parts seat ≡ Some part → part.takes ≡ true → cluster < terms.clusters →
      cluster < length part.taken →
      Account terms (slice_set words cluster 0)
      (slice_set parts seat (part_after_swap part cluster (slice_index words cluster)))
  pub splitting : (terms : Terms) (words : List ℕ) (parts : List Part) (seat : ℕ) (part : Part) (quota : ℕ) →
      Account terms words parts → slice_get parts seat ≡ Some part → Stands terms part → 1 ≤ quota →
      quota < part.quota → sum part.submitted + quota ≤ part.quota →
      Account terms words (slice_set parts seat (part_after_split part quota) ++ new_part part quota ∷ [])
  pub joining : (terms : Terms) (words : List ℕ) (parts : List Part) (seat other : ℕ) (part its : Part) →
      Account terms words parts → other ≢ seat → slice_get parts seat ≡ Some part → slice_get parts other ≡ Some its →
      Stands terms part → Stands terms its →
      Account terms words (slice_set (slice_set parts seat (joined_part part its)) other spent_part)
  -- the load behind a join
  pub looking : (terms : Terms) (words : List ℕ) (parts : List Part) (seat : ℕ) (part : Part) →
      Account terms words parts → slice_get parts seat ≡ Some part → Stands terms part →
      Account terms words (slice_set parts seat (part_after_look part))
