-- Small lists of steps, computed by the definitions alone.
use Rattle.std.specs.Prelude.{◌≡◌, ℕ, zero, suc, ◌+◌, ◌<◌, List, [], ◌∷◌, map, slice_index, false, Option, Some, None, option_map, refl}
use Rattle.std.specs.List.{AllByRecursion, sum_by, count_by}
use Rattle.std.proofs.Common.{ap, subst, ◌∙◌, arith}
use Rattle.us_requests.specs.declared.asks.Ask.{Ask}
use Rattle.us_requests.specs.Cuts as requests
use Rattle.us_steps.specs.Steps.{adds, opens, builds, behind, cut_of, left_of, IsComplete}
use Rattle.us_flows.specs.declared.channels.Channel.{Channel}
use Rattle.us_calendar.specs.Calendars.{Calendar}
use Rattle.us_flows.specs.Tables.{Tables}
use Rattle.us_round.specs.Rounds.{State, opening, begun, schedule}
use Rattle.us_output.specs.Outputs.{out_of}
use Rattle.us_steps.specs.Machines.{Stand, Home, Done, Machine, no_seats, filled_by, placed, after_step, run}
use Rattle.us_steps.specs.Plays.{Play, cuts_of, words_after}
use Rattle.us_steps.specs.Laws.{IsSeated, all_added, all_took}
use Rattle.us_steps.specs.MachinePlays.{MachineRun, run_plays, IsRun, RunsThrough, MachineRunsAreSchedules}
use Rattle.us_steps.specs.Replaying.{TakingNothing, ReplaysAreComplete, counted_as_taken, replay_steps}
use Rattle.us_steps.specs.declared.steps.Step.{Step}
use Rattle.us_steps.specs.declared.steps.Step.TheVariants as step

-- 500 and 700 bytes of the one cluster
abbrev rows : List Ask
rows = record { cluster = 0; bytes = 500 } ∷ record { cluster = 0; bytes = 700 } ∷ []

-- the second row is added by seat 4, the first by seat 3, which takes the word; then the one channel is built
abbrev in_time : List Step
in_time = step.Add 1 4 ∷ step.Add 0 3 ∷ step.Take 0 3 ∷ step.Open 0 ∷ step.Built 0 ∷ []

-- the same, but the first row comes when the channel is out
abbrev one_late : List Step
one_late = step.Add 1 4 ∷ step.Take 0 3 ∷ step.Open 0 ∷ step.Add 0 3 ∷ step.Built 0 ∷ []

-- both rows are cut, and what the word had before
all_cut : (cut_of (0 ∷ []) rows in_time ≡ 1200 ∷ []) × (left_of (0 ∷ []) rows in_time ≡ 0 ∷ [])
    × (cut_of (30 ∷ []) rows in_time ≡ 1230 ∷ [])
unfolding cut_of left_of
all_cut = (refl, refl, refl)

-- a late row is left in the word,
one_left : (cut_of (0 ∷ []) rows one_late ≡ 700 ∷ []) × (left_of (0 ∷ []) rows one_late ≡ 500 ∷ [])
unfolding cut_of left_of
one_left = (refl, refl)

-- and is cut in the next round
next_cut :
    (cuts_of (0 ∷ []) (record { rows = rows; steps = one_late } ∷ record { rows = rows; steps = in_time } ∷ [])
    ≡ (700 ∷ []) ∷ (1700 ∷ []) ∷ []) ×
    (words_after (0 ∷ []) (record { rows = rows; steps = one_late } ∷ record { rows = rows; steps = in_time } ∷ [])
    ≡ 0 ∷ [])
unfolding cuts_of words_after cut_of left_of
next_cut = (refl, refl)

-- The two words of a call: word 0 for its marks as silent, word 1 for those as active.
abbrev marks : List Ask
marks = record { cluster = 0; bytes = 1 } ∷ record { cluster = 1; bytes = 1 } ∷ []

abbrev both_marked : List Step
both_marked = step.Add 1 0 ∷ step.Add 0 0 ∷ step.Take 0 0 ∷ step.Take 1 0 ∷ step.Open 0 ∷ step.Built 0 ∷ []

-- the same, but the mark as active comes behind the Take of its word
abbrev active_late : List Step
active_late = step.Add 0 0 ∷ step.Take 1 0 ∷ step.Add 1 0 ∷ step.Take 0 0 ∷ step.Open 0 ∷ step.Built 0 ∷ []

-- both marks are cut; or the late one is left in its word
two_words :
    (cut_of (0 ∷ 0 ∷ []) marks both_marked ≡ 1 ∷ 1 ∷ []) × (left_of (0 ∷ 0 ∷ []) marks both_marked ≡ 0 ∷ 0 ∷ []) ×
    (cut_of (0 ∷ 0 ∷ []) marks active_late ≡ 1 ∷ 0 ∷ []) × (left_of (0 ∷ 0 ∷ []) marks active_late ≡ 0 ∷ 1 ∷ [])
unfolding cut_of left_of
two_words = (refl, refl, refl, refl)

-- a list in which a channel isn't built isn't complete,
abbrev not_built : List Step
not_built = step.Add 1 4 ∷ step.Add 0 3 ∷ step.Take 0 3 ∷ step.Open 0 ∷ []

never_built : ¬ IsComplete 2 1 1 not_built
never_built all =
    let none : count_by (builds 0) not_built ≡ 0 = refl in
    omega (arith, none, all.built 0 (omega arith))

-- nor is one in which a row is added twice
abbrev twice : List Step
twice = step.Add 1 4 ∷ in_time

added_twice : ¬ IsComplete 2 1 1 twice
added_twice all =
    let two : count_by (adds 1) twice ≡ 2 = refl in
    omega (arith, two, all.added 1 (omega arith))

-- The machine.

-- the word has so many bytes, and the one channel is at home
abbrev start : ℕ → Channel → Calendar → Machine
start word c calendar = record {
  words = word ∷ [];
  cut = 0 ∷ [];
  seats = no_seats;
  added = false ∷ false ∷ [];
  taken = false ∷ [];
  channels = Home c calendar ∷ [];
}

-- the cut, the words and the channels in the end
abbrev ends : State → Channel → Calendar → List Step → Option (List ℕ × List ℕ × List Stand)
ends s c calendar steps = option_map (λ (m : Machine). (m.cut, m.words, m.channels)) (run s rows (start 0 c calendar) steps)

-- the channel is filled and built for the cut that stands in the list
goes_on : (s : State) (c : Channel) (calendar : Calendar) →
    (ends s c calendar in_time ≡ Some (1200 ∷ [], 0 ∷ [], Done (placed (begun s (1200 ∷ [])) (filled_by s (1200 ∷ []) c calendar)) ∷ [])) ×
    (ends s c calendar one_late ≡ Some (700 ∷ [], 500 ∷ [], Done (placed (begun s (700 ∷ [])) (filled_by s (700 ∷ []) c calendar)) ∷ []))
unfolding run after_step
goes_on s c calendar = (refl, refl)

-- the machine stops where a channel isn't built, or is built twice, or at home; where a row is added twice, or isn't there;
-- and where a word is taken once a channel is out
stops : (s : State) (c : Channel) (calendar : Calendar) →
    (ends s c calendar not_built ≡ None) ×
    (ends s c calendar (step.Add 1 4 ∷ step.Add 0 3 ∷ step.Take 0 3 ∷ step.Open 0 ∷ step.Built 0 ∷ step.Built 0 ∷ []) ≡ None) ×
    (ends s c calendar (step.Add 1 4 ∷ step.Add 0 3 ∷ step.Take 0 3 ∷ step.Built 0 ∷ step.Open 0 ∷ []) ≡ None) ×
    (ends s c calendar twice ≡ None) ×
    (ends s c calendar (step.Add 2 4 ∷ in_time) ≡ None) ×
    (ends s c calendar (step.Add 1 4 ∷ step.Add 0 3 ∷ step.Open 0 ∷ step.Take 0 3 ∷ step.Built 0 ∷ []) ≡ None)
unfolding run after_step
stops s c calendar = (refl, refl, refl, refl, refl, refl)

-- what seats 3 and 4 added to the word, and what seat 3 took of it
seats_tell : (s : State) (c : Channel) (calendar : Calendar) →
    option_map {U = ℕ × ℕ × ℕ} (λ (m : Machine). (m.seats.added 3 0, m.seats.added 4 0, m.seats.took 3 0))
    (run s rows (start 0 c calendar) one_late) ≡ Some (500, 700, 700)
unfolding run after_step
seats_tell s c calendar = refl

-- of a word that had 30 bytes, both together added 1200 and took 730, and 500 are left
seated : AllByRecursion (IsSeated (3 ∷ 4 ∷ [])) one_late
seated = (refl, (refl, (tt, (refl, (tt, tt)))))

balance : (s : State) (c : Channel) (calendar : Calendar) →
    option_map {U = ℕ × ℕ × ℕ}
    (λ (m : Machine). (all_added (3 ∷ 4 ∷ []) m 0, all_took (3 ∷ 4 ∷ []) m 0, slice_index m.words 0))
    (run s rows (start 30 c calendar) one_late) ≡ Some (1200, 730, 500)
unfolding run after_step
balance s c calendar = refl

-- Plays by the machine.

-- the round with a late row, and one more: where the machine goes through both, its rounds are those of the two cuts, and all
-- 2,400 bytes are cut
abbrev two_plays : List Play
two_plays = record { rows = rows; steps = one_late } ∷ record { rows = rows; steps = in_time } ∷ []

both_cut : MachineRunsAreSchedules → (t : Tables) (ran : MachineRun) → run_plays (opening t) (0 ∷ []) two_plays ≡ Some ran →
    (ran.outs ≡ map (out_of t) (schedule (opening t) ((700 ∷ []) ∷ (1700 ∷ []) ∷ [])))
    × (sum_by (λ cut. slice_index cut 0) ran.cuts + slice_index ran.words 0 ≡ 2400)
unfolding cuts_of words_after cut_of left_of
both_cut law t ran made =
    let known : AllByRecursion (λ (p : Play). AllByRecursion (λ (ask : Ask). ask.cluster < 1) p.rows) two_plays =
    ((omega arith, (omega arith, tt)), ((omega arith, (omega arith, tt)), tt)) in
    let is : IsRun t (0 ∷ []) two_plays ran =
    subst (λ found. RunsThrough t (0 ∷ []) two_plays found) made (law t (0 ∷ []) two_plays known) in
    let rounds : ran.cuts ≡ (700 ∷ []) ∷ (1700 ∷ []) ∷ [] = is.cuts in
    (is.outs ∙ ap (λ cuts. map (out_of t) (schedule (opening t) cuts)) rounds, is.kept 0)

-- a row of a word that isn't there is lost: the machine goes through, but of word 1 it neither cuts nor leaves its 7 bytes
abbrev no_word : List Play
no_word = record { rows = record { cluster = 1; bytes = 7 } ∷ []; steps = step.Add 0 0 ∷ step.Take 0 0 ∷ [] } ∷ []

lost : (t : Tables) → option_map {U = ℕ × ℕ}
    (λ (ran : MachineRun). (sum_by (λ cut. slice_index cut 1) ran.cuts, slice_index ran.words 1))
    (run_plays (opening (record t { channels = [] })) (0 ∷ []) no_word) ≡ Some (0, 0)
unfolding run_plays run after_step
lost t = refl

seven_asked : sum_by (λ (p : Play). requests.asked p.rows 1) no_word ≡ 7
seven_asked = refl

-- A replay.

-- 300 bytes of word 0, and twice some of word 2
abbrev asks : List Ask
asks = record { cluster = 0; bytes = 300 } ∷ record { cluster = 2; bytes = 500 } ∷ record { cluster = 2; bytes = 700 } ∷ []

-- it takes word 0 and word 2; with a take of word 1 too, which holds nothing,
abbrev built_once : List Step
built_once = step.Open 0 ∷ step.Built 0 ∷ []

abbrev all_three : List Step
all_three = step.Add 2 0 ∷ step.Add 0 0 ∷ step.Add 1 0 ∷ []

abbrev replayed : List Step
replayed =
    step.Add 2 0 ∷ step.Add 0 0 ∷ step.Add 1 0 ∷
    step.Take 0 0 ∷ step.Take 2 0 ∷ step.Take 1 0 ∷ built_once

as_steps : replay_steps 3 asks 0 all_three built_once ≡ replayed
as_steps = refl

-- its cut is the sum of its asks, in whatever order and by whichever seats they are added
any_order : ReplaysAreComplete → (adding : List Step) → IsComplete 3 0 0 adding → IsComplete 0 0 1 built_once →
    cut_of (0 ∷ 0 ∷ 0 ∷ []) asks (replay_steps 3 asks 0 adding built_once) ≡ 300 ∷ 0 ∷ 1200 ∷ []
unfolding requests.cut_of
any_order law adding added built =
    (law 3 1 asks 0 adding built_once (omega arith, (omega arith, (omega arith, tt))) added built).1

-- as where each of the three is added once, and the one channel opened and later built
three_added : IsComplete 3 0 0 all_three
three_added = record {
  there = (omega arith, (omega arith, (omega arith, tt)));
  added = each;
  taken = λ q none. omega (arith, none);
  opened = λ c none. omega (arith, none);
  built = λ c none. omega (arith, none);
  settled = refl;
  later = λ c none. omega (arith, none);
}
  where
    each : (r : ℕ) → r < 3 → count_by (adds r) all_three ≡ 1
    each zero below = refl
    each (suc zero) below = refl
    each (suc (suc zero)) below = refl
    each (suc (suc (suc r))) below = omega (arith, below)

one_built : IsComplete 0 0 1 built_once
one_built = record {
  there = (omega arith, (omega arith, tt));
  added = λ r none. omega (arith, none);
  taken = λ q none. omega (arith, none);
  opened = λ c below. ap (λ n. count_by (opens n) built_once) (first c below);
  built = λ c below. ap (λ n. count_by (builds n) built_once) (first c below);
  settled = refl;
  later = λ c below. ap (λ n. count_by (builds n) (behind (opens n) built_once)) (first c below);
}
  where
    first : (c : ℕ) → c < 1 → c ≡ 0
    first c below = omega (arith, below)

this_order : ReplaysAreComplete → cut_of (0 ∷ 0 ∷ 0 ∷ []) asks replayed ≡ 300 ∷ 0 ∷ 1200 ∷ []
this_order law = any_order law all_three three_added one_built

-- a row of a word that isn't there is taken from none, and its steps aren't complete
abbrev unknown : List Ask
unknown = record { cluster = 5; bytes = 7 } ∷ []

never_known : ¬ IsComplete 1 1 0 (replay_steps 1 unknown 0 (step.Add 0 0 ∷ []) [])
never_known all = omega (arith, all.there.1.0)

-- Nothing is cut of a word that holds nothing;
abbrev after_take : ℕ → State → Channel → Calendar → Option Machine
after_take word s c calendar = after_step s rows (start word c calendar) (step.Take 0 3)

nothing_taken : (s : State) (c : Channel) (calendar : Calendar) →
    option_map {U = List ℕ × List ℕ × ℕ} (λ (m : Machine). (m.words, m.cut, m.seats.took 3 0)) (after_take 0 s c calendar)
    ≡ Some (0 ∷ [], 0 ∷ [], 0)
unfolding after_step
nothing_taken s c calendar = refl

-- the law says so of the whole machine: nothing else changes than that the word counts as taken;
by_law : TakingNothing → (s : State) (c : Channel) (calendar : Calendar) →
    after_take 0 s c calendar ≡ Some (counted_as_taken (start 0 c calendar) 0)
by_law law s c calendar = law s rows (start 0 c calendar) 0 3 refl refl refl

-- of one that holds 7, all 7 are
abbrev left_in : Option Machine → ℕ
left_in None = 0
left_in (Some m) = slice_index m.words 0

something_taken : (s : State) (c : Channel) (calendar : Calendar) →
    ¬ (after_take 7 s c calendar ≡ Some (counted_as_taken (start 7 c calendar) 0))
unfolding after_step
something_taken s c calendar same =
    let seven : 0 ≡ 7 = ap left_in same in
    omega (arith, seven)
