-- The step machine: what stands after each step of a round, in words, seats and channels.
use Rattle.std.specs.Prelude.{ℕ, ◌+◌, ◌==◌, Bool, true, false, ◌&&◌, ◌||◌, if◌then◌else◌, List, [], ◌∷◌, length, map, zip, replicate, get_or, slice_index, slice_get, slice_set, Option, Some, None, option_map, option_and_then}
use Rattle.us_requests.specs.declared.asks.Ask.{Ask}
use Rattle.us_flows.specs.declared.channels.Channel.{Channel}
use Rattle.us_calendar.specs.Calendars.{Calendar, heard_by}
use Rattle.us_channel.specs.Channels.{Filled, Built, fill}
use Rattle.us_round.specs.Rounds.{State, begun, round_plan, build_planned}
use Rattle.us_steps.specs.Steps.{bytes_in}
use Rattle.us_steps.specs.declared.steps.Step.{Step}
use Rattle.us_steps.specs.declared.steps.Step.TheVariants as step

-- A channel is at home, with its calendar as the round before left it; or it is out with a worker, its calendar has heard the
-- cut, and its board is filled by reserves and calendar; or it is done, and its claims are placed on its board.
pub data Stand : Type 0 where
  Home : Channel → Calendar → Stand
  Out : Filled → Stand
  Done : Built → Stand

-- the bytes that each seat added to each word, and those that it took of it
pub record Seats : Type 0 where
  pub added : ℕ → ℕ → ℕ
  pub took : ℕ → ℕ → ℕ

-- what each word has, and what of it is cut so far; what each seat added and took; which rows were added, and which words
-- were taken; and where each channel stands
pub record Machine : Type 0 where
  pub words : List ℕ
  pub cut : List ℕ
  pub seats : Seats
  pub added : List Bool
  pub taken : List Bool
  pub channels : List Stand

abbrev pub no_seats : Seats
no_seats = record { added = λ seat word. 0; took = λ seat word. 0 }

-- before the first step of a state's round, with these words and so many rows
abbrev pub opening_machine : State → List ℕ → ℕ → Machine
opening_machine s words rows = record {
  words = words;
  cut = replicate (length words) 0;
  seats = no_seats;
  added = replicate rows false;
  taken = replicate (length words) false;
  channels = map (λ pair. Home pair.0 pair.1) (zip s.tables.channels s.calendars);
}

-- Rows.

-- words with a row's bytes
abbrev pub raised : List ℕ → Option Ask → List ℕ
raised words None = words
raised words (Some ask) = slice_set words ask.cluster (slice_index words ask.cluster + ask.bytes)

-- a seat that adds a row adds its bytes to its word
abbrev pub having_added : Seats → ℕ → Option Ask → Seats
having_added seats by row = record seats {
  added = λ seat word. if seat == by then seats.added seat word + bytes_in word row else seats.added seat word;
}

abbrev pub with_row : List Ask → Machine → ℕ → ℕ → Machine
with_row rows m row by = record m {
  words = raised m.words (slice_get rows row);
  seats = having_added m.seats by (slice_get rows row);
  added = slice_set m.added row true;
}

-- Words.

-- a seat that takes a word takes what it has
abbrev pub having_taken : Seats → ℕ → ℕ → ℕ → Seats
having_taken seats by taken bytes = record seats {
  took = λ seat word. if (seat == by) && (word == taken) then seats.took seat word + bytes else seats.took seat word;
}

-- the word moves into the cut, and leaves 0
abbrev pub without_word : Machine → ℕ → ℕ → Machine
without_word m word by = record m {
  words = slice_set m.words word 0;
  cut = slice_set m.cut word (slice_index m.cut word + slice_index m.words word);
  seats = having_taken m.seats by word (slice_index m.words word);
  taken = slice_set m.taken word true;
}

-- Channels.

-- a channel with a calendar, filled in a state's round by a calendar that has heard this cut
abbrev pub filled_by : State → List ℕ → Channel → Calendar → Filled
filled_by s cut c calendar = fill s.tables s.round c (heard_by cut calendar)

-- one that is at home goes out
abbrev pub opened : State → List ℕ → Stand → Option Stand
opened s cut (Home c calendar) = Some (Out (filled_by s cut c calendar))
opened s cut (Out f) = None
opened s cut (Done b) = None

-- the claims that the plan of a round that has begun has for a channel are placed on its board
abbrev pub placed : State → Filled → Built
placed s f = build_planned (round_plan s) f

-- so one that is out is done
abbrev pub built : State → Stand → Option Stand
built s (Home c calendar) = None
built s (Out f) = Some (Done (placed s f))
built s (Done b) = None

abbrev pub with_channel : Machine → ℕ → Stand → Machine
with_channel m channel stand = record m { channels = slice_set m.channels channel stand }

-- whether a channel was opened, and whether it is done
abbrev pub was_opened : Stand → Bool
was_opened (Home c calendar) = false
was_opened (Out f) = true
was_opened (Done b) = true

abbrev pub is_built : Stand → Bool
is_built (Home c calendar) = false
is_built (Out f) = false
is_built (Done b) = true

abbrev pub any_open : List Stand → Bool
any_open [] = false
any_open (channel ∷ channels) = was_opened channel || any_open channels

-- Steps.

-- The machine after a step. There is none where the step has no place: a row that was added, a word that was taken, a word
-- once any channel is open, a channel that isn't at home to be opened, or isn't out to be built; and where there is no such
-- row, word or channel. A channel is opened and built for the cut so far, which is the whole cut where no word is taken any
-- more.
unfoldable pub after_step : State → List Ask → Machine → Step → Option Machine
after_step s rows m (step.Add row by) = if get_or m.added row true then None else Some (with_row rows m row by)
after_step s rows m (step.Take word by) =
    if any_open m.channels || get_or m.taken word true then None else Some (without_word m word by)
after_step s rows m (step.Open channel) =
    option_map (with_channel m channel) (option_and_then (opened s m.cut) (slice_get m.channels channel))
after_step s rows m (step.Built channel) =
    option_map (with_channel m channel) (option_and_then (built (begun s m.cut)) (slice_get m.channels channel))

abbrev pub are_set : List Bool → Bool
are_set [] = true
are_set (flag ∷ flags) = flag && are_set flags

-- all rows are added, all words taken, and all channels done
abbrev pub is_done : Machine → Bool
is_done m = are_set m.added && (are_set m.taken && are_set (map is_built m.channels))

-- the machine after all steps; none where one has no place, or something isn't done
unfoldable pub run : State → List Ask → Machine → List Step → Option Machine
run s rows m [] = if is_done m then Some m else None
run s rows m (next ∷ steps) = option_and_then (λ after. run s rows after steps) (after_step s rows m next)

-- the channels that are done
abbrev pub builds_in : List Stand → List Built
builds_in [] = []
builds_in (Home c calendar ∷ channels) = builds_in channels
builds_in (Out f ∷ channels) = builds_in channels
builds_in (Done b ∷ channels) = b ∷ builds_in channels
