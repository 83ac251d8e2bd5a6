-- Who asks in a round: the turns of which bytes are outstanding. The plan of a round is theirs.
use Rattle.std.specs.Prelude.{◌≡◌, ℕ, ◌+◌, ◌-◌, ◌==◌, nat_lt, Bool, ◌&&◌, if◌then◌else◌, List, [], ◌∷◌, length, map, set, replicate, zip, filter, filter_map, slice_get, slice_index, slice_index_or, Option, None}
use Rattle.std.specs.List.{AllByRecursion}
use Rattle.us_flows.specs.declared.channels.Channel.{Channel}
use Rattle.us_flows.specs.Tables.{Tables}
use Rattle.us_flows.specs.Clusters.{Turn, turns_of, words_of}
use Rattle.us_split.specs.Requested.{requested_at, with_cut}
use Rattle.us_split.specs.Plans.{Planned, ledger_of, min_rate_reserves, two_passes, plan_for}
use Rattle.us_split.specs.Claims.{Claim, claim_on, claims_on}

-- Places.

-- the numbers of the words of the turns' clusters
abbrev pub numbers_of : List Turn → List ℕ
numbers_of turns = map (λ turn. turn.number) turns

-- the places of those that pass, where the first number has this place
unfoldable pub places_from : (ℕ → Bool) → ℕ → List ℕ → List ℕ
places_from passes place [] = []
places_from passes place (number ∷ numbers) =
    if passes number then place ∷ places_from passes (place + 1) numbers else places_from passes (place + 1) numbers

-- the turns at these places
abbrev pub turns_at : List Turn → List ℕ → List Turn
turns_at turns places = filter_map (slice_get turns) places

-- Who asks, and who is pending.

-- bytes are outstanding of the word with this number
abbrev pub asks : List ℕ → ℕ → Bool
asks outstanding number = nat_lt 0 (slice_index outstanding number)

-- the places of the turns that ask, in the order of turns
abbrev pub asking : List ℕ → List ℕ → List ℕ
asking outstanding numbers = places_from (asks outstanding) 0 numbers

-- bytes are left of a word, as many as were outstanding
abbrev pub is_pending : List ℕ → List ℕ → ℕ → Bool
is_pending outstanding left number =
    nat_lt 0 (slice_index left number) && (slice_index left number == slice_index outstanding number)

-- the places of the turns that are pending, in the order of turns
abbrev pub pending_places : List ℕ → List ℕ → List ℕ → List ℕ
pending_places outstanding left numbers = places_from (is_pending outstanding left) 0 numbers

-- A round.

-- the tables; what is outstanding of each word before the credits of a round, and what is left after them; and the places of
-- the turns that were pending when the round was settled
pub record Asking : Type 0 where
  pub tables : Tables
  pub outstanding : List ℕ
  pub left : List ℕ
  pub pending : List ℕ

-- before round 0
abbrev pub nobody_asks : Tables → Asking
nobody_asks t = record {
  tables = t;
  outstanding = replicate (length (words_of t)) 0;
  left = replicate (length (words_of t)) 0;
  pending = [];
}

-- a word has so many bytes more
abbrev pub more_of : ℕ → ℕ → List ℕ → List ℕ
more_of number bytes counts = set counts number (slice_index counts number + bytes)

-- the cluster of the word with this number asks for so many bytes more; a word of activity asks for nothing
abbrev pub asked_more : ℕ → ℕ → Asking → Asking
asked_more number bytes a = record a {
  outstanding = more_of number (requested_at (words_of a.tables) number bytes) a.outstanding;
  left = more_of number (requested_at (words_of a.tables) number bytes) a.left;
}

abbrev pub all_asked_more : List ℕ → Asking → Asking
all_asked_more cut a = record a {
  outstanding = with_cut a.tables a.outstanding cut;
  left = with_cut a.tables a.left cut;
}

-- so many bytes of the word with this number were granted
abbrev pub credited : ℕ → ℕ → Asking → Asking
credited number bytes a = record a { left = set a.left number (slice_index a.left number - bytes) }

-- the round is over: what is left is outstanding
abbrev pub settled : Asking → Asking
settled a = record a {
  outstanding = a.left;
  pending = pending_places a.outstanding a.left (numbers_of (turns_of a.tables));
}

-- The plan of those who ask.

-- the places of those who ask among the turns of a round
abbrev pub asking_in : Tables → List ℕ → List ℕ
asking_in t outstanding = asking outstanding (numbers_of (turns_of t))

abbrev pub plan_of_askers : Tables → List ℕ → List (Option ℕ) → List ℕ → List ℕ → List Planned
plan_of_askers t outstanding allowances reserves idle =
    two_passes outstanding (ledger_of t allowances idle) (min_rate_reserves t.flows reserves)
    (turns_at (turns_of t) (asking_in t outstanding))

-- the claims on a channel of planned turns that have these places among all turns
abbrev pub claims_at : Channel → List ℕ → List Planned → List Claim
claims_at c places plan = filter_map (λ planned. claim_on c planned.0 planned.1) (zip places plan)

-- two lists of allowances, and two of reserves, say the same of the flows of turns
pub record AgreeOn (turns : List Turn) (known allowances : List (Option ℕ)) (known_reserves reserves : List ℕ) : Type 0 where
  pub flows : length known ≡ length allowances
  pub allowed :
      AllByRecursion (λ turn. slice_index_or known turn.place None ≡ slice_index_or allowances turn.place None) turns
  pub reserved : AllByRecursion (λ turn. slice_index known_reserves turn.place ≡ slice_index reserves turn.place) turns

-- Laws.

-- Those who ask claim on a channel what is claimed there, whatever is said to be allowed of the flows of others, and reserved
-- for them.
abbrev pub AskersClaim : Type 0
AskersClaim = (t : Tables) (outstanding : List ℕ) (known allowances : List (Option ℕ)) (known_reserves reserves idle : List ℕ)
    (c : Channel) →
    AgreeOn (turns_at (turns_of t) (asking_in t outstanding)) known allowances known_reserves reserves →
    claims_at c (asking_in t outstanding) (plan_of_askers t outstanding known known_reserves idle) ≡
    claims_on c (plan_for t outstanding allowances reserves idle)

-- The turns at the places of those that pass are the turns that pass.
abbrev pub TurnsPass : Type 0
TurnsPass = (passes : ℕ → Bool) (turns : List Turn) →
    turns_at turns (places_from passes 0 (numbers_of turns)) ≡ filter (λ turn. passes turn.number) turns
