-- Inside the crate, and of no use to a reader of the promise: what the code keeps of a machine, in flags of its channels.
use Rattle.std.specs.Prelude.{◌≡◌, ℕ, ◌+◌, ◌^◌, ◌<◌, Bool, true, false, not, ◌&&◌, ◌||◌, if◌then◌else◌, List, [], ◌∷◌, length, map, replicate, get_or, slice_index, slice_get, slice_set, Option, Some, None, option_and_then}
use Rattle.std.specs.List.{AllByRecursion}
use Rattle.us_requests.specs.declared.asks.Ask.{Ask}
use Rattle.us_steps.specs.Steps.{bytes_for, IsComplete, cut_of, left_of}
use Rattle.us_steps.specs.Machines.{Machine, raised, are_set, was_opened, is_built, any_open}
use Rattle.us_steps.specs.declared.steps.Step.{Step}
use Rattle.us_steps.specs.declared.steps.Step.TheVariants as step

-- each word and its cut; which rows were added and which words taken; which channels were opened and which
-- built, a channel being at home before it is opened, and out until it is built; whether any channel was opened
pub record Tally : Type 0 where
  pub words : List ℕ
  pub cut : List ℕ
  pub added : List Bool
  pub taken : List Bool
  pub opened : List Bool
  pub built : List Bool
  pub settled : Bool

-- before the first step
abbrev pub opening_tally : List ℕ → ℕ → ℕ → Tally
opening_tally words rows channels = record {
  words = words;
  cut = replicate (length words) 0;
  added = replicate rows false;
  taken = replicate (length words) false;
  opened = replicate channels false;
  built = replicate channels false;
  settled = false;
}

-- a row's bytes are added to its word,
abbrev pub with_row : List Ask → Tally → ℕ → Tally
with_row rows l row = record l {
  words = raised l.words (slice_get rows row);
  added = slice_set l.added row true;
}

-- a word moves into the cut, and leaves 0,
abbrev pub without_word : Tally → ℕ → Tally
without_word l word = record l {
  words = slice_set l.words word 0;
  cut = slice_set l.cut word (slice_index l.cut word + slice_index l.words word);
  taken = slice_set l.taken word true;
}

-- a channel goes out,
abbrev pub with_open : Tally → ℕ → Tally
with_open l channel = record l { opened = slice_set l.opened channel true; settled = true }

-- and is built
abbrev pub with_built : Tally → ℕ → Tally
with_built l channel = record l { built = slice_set l.built channel true }

-- the tally after a step; none where the step has no place there, a row, word or channel that isn't there being one that
-- was added, taken or opened already
unfoldable pub after : List Ask → Tally → Step → Option Tally
after rows l (step.Add row seat) = if get_or l.added row true then None else Some (with_row rows l row)
after rows l (step.Take word seat) =
    if l.settled || get_or l.taken word true then None else Some (without_word l word)
after rows l (step.Open channel) = if get_or l.opened channel true then None else Some (with_open l channel)
after rows l (step.Built channel) =
    if not (get_or l.opened channel false) || get_or l.built channel true then None else Some (with_built l channel)

-- all rows are added, all words taken, and all channels opened and built
abbrev pub is_done : Tally → Bool
is_done l = are_set l.added && (are_set l.taken && (are_set l.opened && are_set l.built))

-- the tally after all steps; none where one has no place, or something isn't done
unfoldable pub run : List Ask → Tally → List Step → Option Tally
run rows l [] = if is_done l then Some l else None
run rows l (s ∷ steps) = option_and_then (λ next. run rows next steps) (after rows l s)

-- the tally of a machine
abbrev pub tally_of : Machine → Tally
tally_of m = record {
  words = m.words;
  cut = m.cut;
  added = m.added;
  taken = m.taken;
  opened = map was_opened m.channels;
  built = map is_built m.channels;
  settled = any_open m.channels;
}

-- What stays so from step to step.

-- the bytes of the rows of a word that aren't added yet
abbrev pub unadded : ℕ → List Ask → List Bool → ℕ
unadded q [] flags = 0
unadded q (row ∷ rows) [] = 0
unadded q (row ∷ rows) (flag ∷ flags) = (if flag then 0 else bytes_for q row) + unadded q rows flags

-- there are as many flags as rows, words and channels, and each row is of a word that is there
pub record IsSized (rows : List Ask) (l : Tally) : Type 0 where
  pub added : length l.added ≡ length rows
  pub clusters : AllByRecursion (λ ask. ask.cluster < length l.words) rows
  pub cut : length l.cut ≡ length l.words
  pub taken : length l.taken ≡ length l.words
  pub built : length l.built ≡ length l.opened

-- and no number grows too large
pub record IsReady (rows : List Ask) (l : Tally) : Type 0 where
  pub sized : IsSized rows l
  pub room : (q : ℕ) → slice_index l.cut q + (slice_index l.words q + unadded q rows l.added) < 2 ^ 62

-- the cut and what is left are told of complete lists, and of no others
abbrev pub IsTallied : List ℕ → List Ask → ℕ → List Step → Option (List ℕ × List ℕ) → Type 0
IsTallied words rows channels steps None = IsComplete (length rows) (length words) channels steps → ⊥
IsTallied words rows channels steps (Some parts) =
    IsComplete (length rows) (length words) channels steps
    × (parts.0 ≡ cut_of words rows steps) × (parts.1 ≡ left_of words rows steps)
