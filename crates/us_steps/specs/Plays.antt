-- What a list of steps comes to: a round, and what is left in the words.
use Rattle.std.specs.Prelude.{◌≡◌, ℕ, List, [], ◌∷◌, length, Option, Some, None}
use Rattle.us_requests.specs.declared.asks.Ask.{Ask}
use Rattle.us_steps.specs.declared.steps.Step.{Step}
use Rattle.us_round.specs.Rounds.{State, round_of}
use Rattle.us_output.specs.Outputs.{RoundOut, out_of}
use Rattle.us_steps.specs.Steps.{IsComplete, cut_of, left_of}

-- the state that the next round starts from, what is left in the words, and what the round gives
pub record Played : Type 0 where
  pub state : State
  pub words : List ℕ
  pub out : RoundOut

-- those of the round of the cut that the steps make
abbrev pub played : State → List ℕ → List Ask → List Step → Played
played state words rows steps = record {
  state = (round_of state (cut_of words rows steps)).state;
  words = left_of words rows steps;
  out = out_of state.tables (round_of state (cut_of words rows steps)).scheduled;
}

-- whether steps are complete for a state's channels, these words and these rows
abbrev pub AreComplete : State → List ℕ → List Ask → List Step → Type 0
AreComplete state words rows steps = IsComplete (length rows) (length words) (length state.tables.channels) steps

-- nothing is played where the steps aren't complete, and nowhere else
abbrev pub Plays : State → List ℕ → List Ask → List Step → Option Played → Type 0
Plays state words rows steps None = AreComplete state words rows steps → ⊥
Plays state words rows steps (Some done) =
    AreComplete state words rows steps × (done ≡ played state words rows steps)

-- Runs: one play after another, each from the state and the words that the last one left.

pub record Play : Type 0 where
  pub rows : List Ask
  pub steps : List Step

-- what the rounds give,
unfoldable pub run_of : State → List ℕ → List Play → List RoundOut
run_of state words [] = []
run_of state words (p ∷ plays) =
    let done : Played = played state words p.rows p.steps in
    done.out ∷ run_of done.state done.words plays

-- the state that they leave,
unfoldable pub state_after : State → List ℕ → List Play → State
state_after state words [] = state
state_after state words (p ∷ plays) =
    let done : Played = played state words p.rows p.steps in
    state_after done.state done.words plays

-- their cuts,
unfoldable pub cuts_of : List ℕ → List Play → List (List ℕ)
cuts_of words [] = []
cuts_of words (p ∷ plays) = cut_of words p.rows p.steps ∷ cuts_of (left_of words p.rows p.steps) plays

-- and what is left in the words
unfoldable pub words_after : List ℕ → List Play → List ℕ
words_after words [] = words
words_after words (p ∷ plays) = words_after (left_of words p.rows p.steps) plays
