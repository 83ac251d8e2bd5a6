-- How the code's Live is kept, and what one round makes of a state.
use Rattle.std.specs.Prelude.{◌≡◌, ℕ, ◌≤◌, ◌++◌, ◌∷◌, [], true, List, length, Option, IfSome, option_map}
use Rattle.us_flows.specs.Tables.{rounds_fit}
use Rattle.us_flows.specs.Clusters.{words_of}
use Rattle.us_round.specs.Rounds.{State, opening, final, round_of}
use Rattle.us_output.specs.Outputs.{RoundOut, out_of}
use Rattle.us_live.specs.Lives.{Live}

abbrev pub live_at : ℕ → ℕ → List (List ℕ) → Option State → Live
live_at clusters rounds log state =
    record { clusters = clusters; rounds = rounds; log = log; tables = option_map (λ s. s.tables) state }

-- the state is the one that the rounds of the log leave
pub record IsRunning (clusters rounds : ℕ) (log : List (List ℕ)) (state : State) : Type 0 where
  pub fits : rounds_fit state.tables rounds ≡ true
  pub clusters_are : clusters ≡ length (words_of state.tables)
  pub state_is : state ≡ final (opening state.tables) log

pub record IsInside (clusters rounds : ℕ) (log : List (List ℕ)) (state : Option State) : Type 0 where
  pub few : length log ≤ rounds
  pub running : IfSome state (IsRunning clusters rounds log)

-- the round of a state and a cut was made, and the cut is logged
pub record IsMade (state next : State) (log after : List (List ℕ)) (cut : List ℕ) (out : RoundOut) : Type 0 where
  pub logs : after ≡ log ++ cut ∷ []
  pub state_is : next ≡ (round_of state cut).state
  pub out_is : out ≡ out_of state.tables (round_of state cut).scheduled
