-- What a replay does with the words of a round, as steps (ours): it takes those that its rows name, and no others. To take a
-- word that holds nothing changes nothing but that it counts as taken.
use Rattle.std.specs.Prelude.{◌≡◌, ℕ, ◌<◌, ◌==◌, Bool, true, false, not, List, [], ◌∷◌, ◌++◌, length, map, filter, replicate, get_or, slice_index, slice_set, Some}
use Rattle.std.specs.List.{AllByRecursion, list_any, range_with_len}
use Rattle.us_requests.specs.declared.asks.Ask.{Ask}
use Rattle.us_requests.specs.Cuts as requests
use Rattle.us_round.specs.Rounds.{State}
use Rattle.us_steps.specs.declared.steps.Step.{Step}
use Rattle.us_steps.specs.declared.steps.Step.TheVariants as step
use Rattle.us_steps.specs.Steps.{IsComplete, cut_of, left_of}
use Rattle.us_steps.specs.Machines.{Machine, any_open, after_step}

-- Taking nothing.

-- a machine for which a word counts as taken, and nothing else is changed
abbrev pub counted_as_taken : Machine → ℕ → Machine
counted_as_taken m word = record m { taken = slice_set m.taken word true }

-- Of any machine of which no channel is open, a word that isn't taken yet and holds nothing may be taken; words, cut and seats
-- are what they were.
abbrev pub TakingNothing : Type 0
TakingNothing = (s : State) (rows : List Ask) (m : Machine) (word by : ℕ) → any_open m.channels ≡ false →
    get_or m.taken word true ≡ false → slice_index m.words word ≡ 0 →
    after_step s rows m (step.Take word by) ≡ Some (counted_as_taken m word)

-- A replay.

-- the words that it takes, one for each row
abbrev pub words_swapped : List Ask → List ℕ
words_swapped rows = map (λ ask. ask.cluster) rows

-- numbers, each once, where it comes first
abbrev pub firsts : List ℕ → List ℕ
firsts [] = []
firsts (q ∷ qs) = q ∷ filter (λ r. not (r == q)) (firsts qs)

-- one number is among others
abbrev pub is_among : List ℕ → ℕ → Bool
is_among qs q = list_any (λ r. r == q) qs

-- of so many words those that no row names
abbrev pub other_words : ℕ → List Ask → List ℕ
other_words words rows = filter (λ q. not (is_among (words_swapped rows) q)) (range_with_len 0 words)

-- a seat takes these words, one after another
abbrev pub takes_of : ℕ → List ℕ → List Step
takes_of by qs = map (λ q. step.Take q by) qs

-- The rows are added, by whichever seats and in whatever order; a seat takes each word that they name, where it comes first, and
-- then each other word; and channels are opened and built.
abbrev pub replay_steps : ℕ → List Ask → ℕ → List Step → List Step → List Step
replay_steps words rows by adding building =
    adding ++ (takes_of by (firsts (words_swapped rows)) ++ (takes_of by (other_words words rows) ++ building))

-- Such steps are complete, from words that hold nothing. What they cut is what the rows come to by words, and nothing is left
-- in any word.
abbrev pub ReplaysAreComplete : Type 0
ReplaysAreComplete = (words channels : ℕ) (rows : List Ask) (by : ℕ) (adding building : List Step) →
    AllByRecursion (λ ask. ask.cluster < words) rows → IsComplete (length rows) 0 0 adding →
    IsComplete 0 0 channels building →
    IsComplete (length rows) words channels (replay_steps words rows by adding building)
    × (cut_of (replicate words 0) rows (replay_steps words rows by adding building) ≡ requests.cut_of words rows)
    × (left_of (replicate words 0) rows (replay_steps words rows by adding building) ≡ replicate words 0)
