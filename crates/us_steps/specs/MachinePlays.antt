-- Plays by the machine: it goes through the steps of one after another, each from the words, the state and the channels that
-- the last one left.
use Rattle.std.specs.Prelude.{◌≡◌, ℕ, ◌+◌, ◌<◌, List, [], ◌∷◌, length, map, slice_index, Option, Some, None, option_map, option_and_then}
use Rattle.std.specs.List.{AllByRecursion, sum_by}
use Rattle.us_flows.specs.Tables.{Tables}
use Rattle.us_requests.specs.Cuts as requests
use Rattle.us_round.specs.Rounds.{State, RoundResult, opening, begun, ended, schedule, final}
use Rattle.us_output.specs.Outputs.{RoundOut, out_of}
use Rattle.us_steps.specs.Steps.{IsComplete}
use Rattle.us_steps.specs.Machines.{Machine, opening_machine, run, builds_in}
use Rattle.us_steps.specs.Plays.{Play, cuts_of, words_after}

-- the cut of each round and what it gives, and in the end the words and the state
pub record MachineRun : Type 0 where
  pub cuts : List (List ℕ)
  pub outs : List RoundOut
  pub words : List ℕ
  pub state : State

-- what a machine's channels come to, with its cut
abbrev pub result_of : State → Machine → RoundResult
result_of s end = ended (begun s end.cut) (builds_in end.channels)

-- one round more, before the others
abbrev pub with_round : State → List ℕ → RoundResult → MachineRun → MachineRun
with_round s cut result ran = record {
  cuts = cut ∷ ran.cuts;
  outs = out_of s.tables result.scheduled ∷ ran.outs;
  words = ran.words;
  state = ran.state;
}

-- none where the machine stops in any of them
unfoldable pub run_plays : State → List ℕ → List Play → Option MachineRun
run_plays s words [] = Some (record { cuts = []; outs = []; words = words; state = s })
run_plays s words (p ∷ plays) =
    option_and_then
    (λ end. option_map (with_round s end.cut (result_of s end)) (run_plays (result_of s end).state end.words plays))
    (run s p.rows (opening_machine s words (length p.rows)) p.steps)

-- the lists of steps of all plays are complete, for so many words and channels
abbrev pub AreAllComplete : ℕ → ℕ → List Play → Type 0
AreAllComplete words channels plays =
    AllByRecursion (λ (p : Play). IsComplete (length p.rows) words channels p.steps) plays

-- Of plays that it goes through, from the opening on: each list of steps is complete; the cuts are those that plays tell, and so
-- is what is left in the words; the rounds are the schedule over these cuts, and leave its state; and of each word all cuts
-- and what is left are what it had at first, and all its rows.
pub record IsRun (t : Tables) (words : List ℕ) (plays : List Play) (ran : MachineRun) : Type 0 where
  pub complete : AreAllComplete (length words) (length t.channels) plays
  pub cuts : ran.cuts ≡ cuts_of words plays
  pub left : ran.words ≡ words_after words plays
  pub outs : ran.outs ≡ map (out_of t) (schedule (opening t) ran.cuts)
  pub state : ran.state ≡ final (opening t) ran.cuts
  pub kept : (q : ℕ) → sum_by (λ cut. slice_index cut q) ran.cuts + slice_index ran.words q
      ≡ slice_index words q + sum_by (λ (p : Play). requests.asked p.rows q) plays

-- it goes through plays whose lists are all complete, and through no others
abbrev pub RunsThrough : Tables → List ℕ → List Play → Option MachineRun → Type 0
RunsThrough t words plays None = AreAllComplete (length words) (length t.channels) plays → ⊥
RunsThrough t words plays (Some ran) = IsRun t words plays ran

-- the law of the machine's runs, of any tables, words and plays whose rows are of these words
abbrev pub MachineRunsAreSchedules : Type 0
MachineRunsAreSchedules = (t : Tables) (words : List ℕ) (plays : List Play) →
    AllByRecursion (λ (p : Play). AllByRecursion (λ ask. ask.cluster < length words) p.rows) plays →
    RunsThrough t words plays (run_plays (opening t) words plays)
