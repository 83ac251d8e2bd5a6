-- Inside the crate, and of no use to a reader of the promise: how it is kept who asks.
use Rattle.std.specs.Prelude.{◌≡◌, ◌≢◌, ℕ, ◌^◌, ◌<◌, ◌≤◌, nat_lt, if◌then◌else◌, List, [], ◌∷◌, length, slice_get, slice_index, slice_index_or, Option, Some, None}
use Rattle.std.specs.List.{AllByRecursion}
use Rattle.us_flows.specs.Tables.{Tables}
use Rattle.us_flows.specs.Clusters.{turns_of, words_of}
use Rattle.us_split.specs.Asking.{asking, numbers_of}
use Rattle.us_split.specs.Requested.{requested_in}

-- no number stands at two places
abbrev pub AreOnce : List ℕ → Type 0
AreOnce numbers = (one other n : ℕ) → slice_get numbers one ≡ Some n → slice_get numbers other ≡ Some n → one ≡ other

-- a number stands at this place; where there is none, it stands nowhere
abbrev pub IsPlaceOf : List ℕ → ℕ → Option ℕ → Type 0
IsPlaceOf numbers n None = (place : ℕ) → slice_get numbers place ≢ Some n
IsPlaceOf numbers n (Some place) = slice_get numbers place ≡ Some n

-- the numbers of turns are those of so many words; the places tell for each word where its number stands, if it has a turn
pub record ArePlaces (words : ℕ) (numbers : List ℕ) (places : List (Option ℕ)) : Type 0 where
  pub one_each : length places ≡ words
  pub below : AllByRecursion (λ n. n < words) numbers
  pub once : AreOnce numbers
  pub found : (n : ℕ) → n < words → IsPlaceOf numbers n (slice_index_or places n None)

-- what is left of words is no more than what was outstanding, which is below 2^62
pub record AreBytes (outstanding left : List ℕ) : Type 0 where
  pub one_each : length left ≡ length outstanding
  pub within : (n : ℕ) → slice_index left n ≤ slice_index outstanding n
  pub range : AllByRecursion (λ bytes. bytes < 2 ^ 62) outstanding

-- the list of those who ask, by these tables, with room for all turns, and so much room for those who are pending; nothing is
-- outstanding that wasn't requested
pub record AreAskers (t : Tables) (numbers : List ℕ) (places : List (Option ℕ)) (outstanding left list : List ℕ)
    (room pending_room : ℕ) : Type 0 where
  pub words : length outstanding ≡ length (words_of t)
  pub of_turns : numbers ≡ numbers_of (turns_of t)
  pub turns : ArePlaces (length outstanding) numbers places
  pub bytes : AreBytes outstanding left
  pub requested : requested_in (words_of t) outstanding ≡ outstanding
  pub listed : list ≡ asking outstanding numbers
  pub room_to_ask : length numbers ≤ room
  pub room_for_pending : length numbers ≤ pending_room

-- a place among others that rise
abbrev pub put_in : ℕ → List ℕ → List ℕ
put_in place [] = place ∷ []
put_in place (other ∷ others) =
    if nat_lt other place then other ∷ put_in place others else place ∷ other ∷ others

-- where places that rise part: those below this one, and the others
pub record IsPartedAt (places : List ℕ) (place at : ℕ) : Type 0 where
  pub inside : at ≤ length places
  pub below : (i : ℕ) → i < at → slice_index places i < place
  pub above : (i : ℕ) → at ≤ i → i < length places → place ≤ slice_index places i

-- a cut has nothing of the words from one to another
abbrev pub HasNothing : List ℕ → ℕ → ℕ → Type 0
HasNothing cut from to = (word : ℕ) → from ≤ word → word < to → slice_index cut word ≡ 0
