-- What rounds plan first of a flow with a minimum rate, at small inputs.
use Rattle.std.specs.Prelude.{◌≡◌, ℕ, zero, suc, ◌+◌, ◌*◌, ◌≤◌, ◌-◌, ◌<◌, List, [], ◌∷◌, ◌++◌, length, map, take, slice_get, slice_index, Some, refl}
use Rattle.std.proofs.Common.{arith}
use Rattle.us_flows.specs.Tables.{FlowTable}
use Rattle.us_flows.specs.Lawful.{AreTables}
use Rattle.us_bucket.specs.Levels.{reserve_in}
use Rattle.us_bucket.specs.Allowances.{KeepsBound}
use Rattle.us_bucket.specs.Spans.{credited}
use Rattle.us_round.specs.Rounds.{State, opening}
use Rattle.us_round.specs.ScheduleLaws.{begun_rounds, AreCuts}
use Rattle.us_round.specs.MinimumRates.{min_limit, first_shares, IsMostNext, MinimumRatesAreKept}
use Rattle.us_round.specs.RoundExamples.{round_steps, reserved, cuts, flow_with}

-- the second flow of `reserved`, with 1.28 Mbit/s and bursts of at most 1,522 bytes: nothing is asked for in round 0; then all of
-- its reserve is planned first, and in round 2 what a round brings
second_first : first_shares reserved cuts 1 ≡ 0 ∷ 1522 ∷ 320 ∷ []
unfolding round_steps begun_rounds
second_first = refl

reserves_then : map (λ s. map reserve_in s.reserves) (begun_rounds (opening reserved) cuts) ≡
    (0 ∷ 1522 ∷ []) ∷ (0 ∷ 1522 ∷ []) ∷ (0 ∷ 320 ∷ []) ∷ []
unfolding round_steps begun_rounds
reserves_then = refl

-- the flow that asks for all has no minimum rate, and nothing of it is planned first
first_none : first_shares reserved cuts 0 ≡ 0 ∷ 0 ∷ 0 ∷ []
unfolding round_steps begun_rounds
first_none = refl

abbrev second : FlowTable
second = record (flow_with 2 0 (1 ∷ []) ((292 ∷ []) ∷ [])) { burst = 1522; min_rate = 1280000 }

-- whatever is asked for, over any two rounds in a row at most a burst and what a round brings are planned first
two_rounds : MinimumRatesAreKept → AreTables reserved → (asked : List (List ℕ)) → AreCuts reserved asked → (r : ℕ) →
    r + 1 < length (first_shares reserved asked 1) → credited (first_shares reserved asked 1) r (r + 1) ≤ 1842
two_rounds law lawful asked long r inside =
    let bound : credited (first_shares reserved asked 1) r (r + 1) * 1280000 ≤ 1522 * 1280000 + (r + 1 - r) * (320 * 1280000) =
    (law reserved asked lawful long 1 second refl (omega arith)).keeps r (r + 1) (omega arith) inside in
    omega (arith, bound)

-- and in each round no more bytes keep the bound behind the rounds before than are reserved
reserve_is_most : MinimumRatesAreKept → AreTables reserved → (asked : List (List ℕ)) → AreCuts reserved asked →
    (round bytes : ℕ) (s : State) → slice_get (begun_rounds (opening reserved) asked) round ≡ Some s →
    KeepsBound (min_limit reserved second) (take round (first_shares reserved asked 1) ++ bytes ∷ []) →
    bytes ≤ slice_index (map reserve_in s.reserves) 1
reserve_is_most law lawful asked long round bytes s at keeps =
    ((law reserved asked lawful long 1 second refl (omega arith)).most round s at).greatest bytes keeps

-- Without a minimum rate the reserve is nothing, and not the most that a limit of 0 bit/s keeps: a burst.
abbrev first : FlowTable
first = flow_with 1 7 (1 ∷ []) ((291 ∷ []) ∷ [])

one_byte : KeepsBound (min_limit reserved first) (1 ∷ [])
one_byte zero zero order inside = omega arith
one_byte (suc i) zero order inside = absurd (omega (arith, order))
one_byte i (suc j) order inside = absurd (omega (arith, inside))

not_most : ¬ IsMostNext (min_limit reserved first) [] 0
not_most most = omega (arith, most.greatest 1 one_byte)
