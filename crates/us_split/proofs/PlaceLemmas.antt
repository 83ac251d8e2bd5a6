-- Where numbers stand, noted one after another.
use Rattle.std.proofs.Common.{◌≡◌, ◌≢◌, ℕ, ◌<◌, List, Option, Some, None, slice_get}

-- a number stands at this place; where there is none, it stands at none of the first so many
abbrev pub IsPlaceSoFar : List ℕ → ℕ → ℕ → Option ℕ → Type 0
IsPlaceSoFar numbers count n None = (place : ℕ) → place < count → slice_get numbers place ≢ Some n
IsPlaceSoFar numbers count n (Some place) = slice_get numbers place ≡ Some n
