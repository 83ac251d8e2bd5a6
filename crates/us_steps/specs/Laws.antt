-- Laws of steps, of the machine, and of plays.
use Rattle.std.specs.Prelude.{◌≡◌, ℕ, ◌+◌, ◌<◌, ◌==◌, List, length, map, slice_index, Option, Some, None, option_map, ⊤}
use Rattle.std.specs.List.{AllByRecursion, sum_by, count_by}
use Rattle.us_flows.specs.Tables.{Tables}
use Rattle.us_requests.specs.declared.asks.Ask.{Ask}
use Rattle.us_requests.specs.Cuts as requests
use Rattle.us_round.specs.Rounds.{State, opening, begun, fills_of, builds_of, ended, round_of, schedule, final}
use Rattle.us_output.specs.Outputs.{out_of}
use Rattle.us_round.specs.States.{IsState}
use Rattle.us_steps.specs.declared.steps.Step.{Step}
use Rattle.us_steps.specs.declared.steps.Step.TheVariants as step
use Rattle.us_steps.specs.Steps.{IsComplete, cut_of, left_of}
use Rattle.us_steps.specs.Machines.{Seats, Machine, Done, no_seats, opening_machine, run, builds_in}
use Rattle.us_steps.specs.Plays.{Play, run_of, state_after, cuts_of, words_after}

-- What the machine ends with.

-- Among these seats, whoever adds or takes stands once,
abbrev pub IsSeated : List ℕ → Step → Type 0
IsSeated seats (step.Add row by) = count_by (λ seat. seat == by) seats ≡ 1
IsSeated seats (step.Take word by) = count_by (λ seat. seat == by) seats ≡ 1
IsSeated seats (step.Open channel) = ⊤
IsSeated seats (step.Built channel) = ⊤

-- and this is what all of them added to a word, and took of it.
abbrev pub all_added : List ℕ → Machine → ℕ → ℕ
all_added seats m q = sum_by (λ seat. m.seats.added seat q) seats

abbrev pub all_took : List ℕ → Machine → ℕ → ℕ
all_took seats m q = sum_by (λ seat. m.seats.took seat q) seats

-- What a word had and what all seats added is what all seats took and what is left; they added all its rows, and took its
-- cut.
pub record Balances (words : List ℕ) (rows : List Ask) (seats : List ℕ) (end : Machine) (q : ℕ) : Type 0 where
  pub whole : slice_index words q + all_added seats end q ≡ all_took seats end q + slice_index end.words q
  pub added : all_added seats end q ≡ requests.asked rows q
  pub took : all_took seats end q ≡ slice_index end.cut q

-- Of a list of steps that it goes through: the list is complete; each word is left the rows that were added after it was
-- taken, and the others are cut; each channel is done, as the round of this cut has it, in whichever order channels were
-- opened and built; so what the channels come to is that round; and what the seats added and took balances.
pub record IsPlayed (s : State) (words : List ℕ) (rows : List Ask) (steps : List Step) (end : Machine) : Type 0 where
  pub complete : IsComplete (length rows) (length words) (length (fills_of s)) steps
  pub left : end.words ≡ left_of words rows steps
  pub cut : end.cut ≡ cut_of words rows steps
  pub channels : end.channels ≡ map (λ b. Done b) (builds_of (begun s (cut_of words rows steps)))
  pub round : ended (begun s end.cut) (builds_in end.channels) ≡ round_of s (cut_of words rows steps)
  pub seats : (seats : List ℕ) → AllByRecursion (IsSeated seats) steps → (q : ℕ) → Balances words rows seats end q

-- it goes through complete lists, and through no others
abbrev pub GoesThrough : State → List ℕ → List Ask → List Step → Option Machine → Type 0
GoesThrough s words rows steps None = IsComplete (length rows) (length words) (length (fills_of s)) steps → ⊥
GoesThrough s words rows steps (Some end) = IsPlayed s words rows steps end

-- the theorem of the machine: through these steps it comes to the round that `play` answers
abbrev pub MachineMakesRounds : Type 0
MachineMakesRounds = (s : State) (words : List ℕ) (rows : List Ask) (steps : List Step) →
    AllByRecursion (λ ask. ask.cluster < length words) rows →
    GoesThrough s words rows steps (run s rows (opening_machine s words (length rows)) steps)

-- where there is a calendar for each channel, as in every state that `play` takes, each channel of the tables is filled
abbrev pub EachChannelIsFilled : Type 0
EachChannelIsFilled = (s : State) → IsState s → length (fills_of s) ≡ length s.tables.channels

-- Seats.

-- a step that seat 0 makes, whoever made it
abbrev pub unseated : Step → Step
unseated (step.Add row by) = step.Add row 0
unseated (step.Take word by) = step.Take word 0
unseated (step.Open channel) = step.Open channel
unseated (step.Built channel) = step.Built channel

-- a machine of whose seats something else is told
abbrev pub with_seats : Seats → Machine → Machine
with_seats seats m = record m { seats = seats }

-- whoever adds and takes, and whatever was told of seats before, all but the seats comes out the same
abbrev pub SeatsChangeNothing : Type 0
SeatsChangeNothing = (s : State) (rows : List Ask) (m : Machine) (seats : Seats) (steps : List Step) →
    option_map (with_seats no_seats) (run s rows (with_seats seats m) (map unseated steps))
    ≡ option_map (with_seats no_seats) (run s rows m steps)

-- Plays.

-- plays one after another, from the opening on, are the schedule over their cuts
abbrev pub PlaysAreRounds : Type 0
PlaysAreRounds = (t : Tables) (words : List ℕ) (plays : List Play) →
    (run_of (opening t) words plays ≡ map (out_of t) (schedule (opening t) (cuts_of words plays)))
    × (state_after (opening t) words plays ≡ final (opening t) (cuts_of words plays))

-- all cuts of a word and what is left in it are what it had at first, and all its rows
abbrev pub NothingIsLost : Type 0
NothingIsLost = (channels : ℕ) (words : List ℕ) (plays : List Play) (q : ℕ) →
    AllByRecursion (λ (p : Play). IsComplete (length p.rows) (length words) channels p.steps) plays → q < length words →
    sum_by (λ cut. slice_index cut q) (cuts_of words plays) + slice_index (words_after words plays) q
    ≡ slice_index words q + sum_by (λ (p : Play). requests.asked p.rows q) plays
