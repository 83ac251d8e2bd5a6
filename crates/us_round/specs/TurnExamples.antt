-- Placing turn by turn on small boards, computed by the definitions alone.
use Rattle.std.specs.Prelude.{◌≡◌, ℕ, List, [], ◌∷◌, map, take, refl}
use Rattle.us_channel.specs.Channels.{Built, ungranted}
use Rattle.us_round.specs.Rounds.{State, fills_of, opening, round_plan}
use Rattle.us_round.specs.TurnByTurn.{place_channels, place_turns}
use Rattle.us_round.specs.RoundExamples.{channel_with, flow_with, round_steps, tables}

-- two channels with 10 idle minislots each, and a flow of both, the second one first; 100 bytes are outstanding of its first
-- cluster, and 50 of its second one
abbrev state : State
state = record (opening (tables (channel_with 1 150 0 1 ∷ channel_with 2 150 0 1 ∷ [])
    (flow_with 1 0 (2 ∷ 1 ∷ []) ((292 ∷ 291 ∷ []) ∷ (294 ∷ 293 ∷ []) ∷ []) ∷ []))) { outstanding = 100 ∷ 50 ∷ [] }

-- the first minislot of each grant on each channel, its SID, and its credit
abbrev grants : List Built → List (List (ℕ × ℕ × ℕ))
grants builds = map (λ b. map (λ g. (g.assignment.start, g.assignment.owner.sid, g.credit)) b.grants) builds

-- after so many turns
abbrev after : ℕ → List (List (ℕ × ℕ × ℕ))
after turns = grants (place_turns 0 (take turns (round_plan state)) (map ungranted (fills_of state)))

turn_by_turn :
    (after 0 ≡ [] ∷ [] ∷ []) ×
    (after 1 ≡ ((0, 291, 50) ∷ []) ∷ ((0, 292, 50) ∷ []) ∷ []) ×
    (after 2 ≡ ((0, 291, 50) ∷ (3, 293, 25) ∷ []) ∷ ((0, 292, 50) ∷ (3, 294, 25) ∷ []) ∷ [])
unfolding round_steps place_channels place_turns
turn_by_turn = (refl, refl, refl)
