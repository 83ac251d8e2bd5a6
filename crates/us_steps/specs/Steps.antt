-- The steps of a round, one by one: rows of requests and marks are added to their words, each word is taken into the
-- cut, and each channel is opened and built. A seat is who adds or takes; its number plays no part in what is answered.
use Rattle.std.specs.Prelude.{◌≡◌, ℕ, ◌+◌, ◌<◌, ◌==◌, Bool, true, false, if◌then◌else◌, List, [], ◌∷◌, length, map, slice_index, slice_get, Option, Some, None}
use Rattle.std.specs.List.{AllByRecursion, range_with_len, sum_by, count_by}
use Rattle.us_requests.specs.declared.asks.Ask.{Ask}
use Rattle.us_steps.specs.declared.steps.Step.{Step}
use Rattle.us_steps.specs.declared.steps.Step.TheVariants as step

-- Lists of steps.

-- whether a step adds this row,
abbrev pub adds : ℕ → Step → Bool
adds r (step.Add row seat) = row == r
adds r (step.Take word seat) = false
adds r (step.Open channel) = false
adds r (step.Built channel) = false

-- takes this word,
abbrev pub takes : ℕ → Step → Bool
takes q (step.Add row seat) = false
takes q (step.Take word seat) = word == q
takes q (step.Open channel) = false
takes q (step.Built channel) = false

-- opens this channel,
abbrev pub opens : ℕ → Step → Bool
opens c (step.Add row seat) = false
opens c (step.Take word seat) = false
opens c (step.Open channel) = channel == c
opens c (step.Built channel) = false

-- or tells that it is built
abbrev pub builds : ℕ → Step → Bool
builds c (step.Add row seat) = false
builds c (step.Take word seat) = false
builds c (step.Open channel) = false
builds c (step.Built channel) = channel == c

-- whether a step takes any word, or opens any channel
abbrev pub takes_one : Step → Bool
takes_one (step.Add row seat) = false
takes_one (step.Take word seat) = true
takes_one (step.Open channel) = false
takes_one (step.Built channel) = false

abbrev pub opens_one : Step → Bool
opens_one (step.Add row seat) = false
opens_one (step.Take word seat) = false
opens_one (step.Open channel) = true
opens_one (step.Built channel) = false

-- what stands before the first that passes, and what stands behind it
abbrev pub ahead : {X : Type 0} → (X → Bool) → List X → List X
ahead p [] = []
ahead p (x ∷ xs) = if p x then [] else x ∷ ahead p xs

abbrev pub behind : {X : Type 0} → (X → Bool) → List X → List X
behind p [] = []
behind p (x ∷ xs) = if p x then xs else behind p xs

-- Complete lists.

-- a step names a row, a word or a channel that is there
abbrev pub IsThere : ℕ → ℕ → ℕ → Step → Type 0
IsThere rows words channels (step.Add row seat) = row < rows
IsThere rows words channels (step.Take word seat) = word < words
IsThere rows words channels (step.Open channel) = channel < channels
IsThere rows words channels (step.Built channel) = channel < channels

-- each row is added once, at any point; each word is taken once, and none once a channel is open; each channel is opened
-- once, and later built once
pub record IsComplete (rows words channels : ℕ) (steps : List Step) : Type 0 where
  pub there : AllByRecursion (IsThere rows words channels) steps
  pub added : (r : ℕ) → r < rows → count_by (adds r) steps ≡ 1
  pub taken : (q : ℕ) → q < words → count_by (takes q) steps ≡ 1
  pub opened : (c : ℕ) → c < channels → count_by (opens c) steps ≡ 1
  pub built : (c : ℕ) → c < channels → count_by (builds c) steps ≡ 1
  pub settled : count_by takes_one (behind opens_one steps) ≡ 0
  pub later : (c : ℕ) → c < channels → count_by (builds c) (behind (opens c) steps) ≡ 1

-- Cuts.

-- the bytes that a row has for a word
abbrev pub bytes_for : ℕ → Ask → ℕ
bytes_for q ask = if ask.cluster == q then ask.bytes else 0

abbrev pub bytes_in : ℕ → Option Ask → ℕ
bytes_in q None = 0
bytes_in q (Some ask) = bytes_for q ask

-- the bytes that a step adds to a word
abbrev pub added_by : List Ask → ℕ → Step → ℕ
added_by rows q (step.Add row seat) = bytes_in q (slice_get rows row)
added_by rows q (step.Take word seat) = 0
added_by rows q (step.Open channel) = 0
added_by rows q (step.Built channel) = 0

-- of a word is cut what it has, and the bytes of its rows that are added before it is taken,
abbrev pub cut_at : List ℕ → List Ask → List Step → ℕ → ℕ
cut_at words rows steps q = slice_index words q + sum_by (added_by rows q) (ahead (takes q) steps)

-- and its word is left those that are added after
abbrev pub left_at : List Ask → List Step → ℕ → ℕ
left_at rows steps q = sum_by (added_by rows q) (behind (takes q) steps)

-- of all words, in the order of their numbers
unfoldable pub cut_of : List ℕ → List Ask → List Step → List ℕ
cut_of words rows steps = map (cut_at words rows steps) (range_with_len 0 (length words))

unfoldable pub left_of : List ℕ → List Ask → List Step → List ℕ
left_of words rows steps = map (left_at rows steps) (range_with_len 0 (length words))
