-- Traces: filed requests, ordered by round, are the trace of these requests.
use Rattle.std.proofs.Common.{◌≡◌, ℕ, List, length, refl, ap, ◌∙◌}
use Rattle.us_flows.specs.Tables.{Tables}
use Rattle.us_flows.specs.Clusters.{words_of}
use Rattle.us_flows.specs.Lawful.{AreTables}
use Rattle.us_requests.specs.declared.asks.Counts.{Counts}
use Rattle.us_requests.specs.declared.placed.PlacedAsk.{PlacedAsk}
use Rattle.us_requests.specs.Asks.{Request, asks_at}
use Rattle.us_requests.specs.Cuts.{cut_of}
use Rattle.us_requests.specs.Traces.{TraceAsks, IsTrace, IsTraceOf, of_round}
use Rattle.us_requests.specs.Readings.{AreRequests}
use Rattle.us_requests.specs.Outcomes.{IsFiled}
use Rattle.us_requests.proofs.TotalLemmas.{few-of, asked-of, none-late, all-known, all-small}
use Rattle.us_requests.proofs.CutLemmas.{sums-are-cut}

abbrev made : ℕ → List PlacedAsk → Counts → TraceAsks
made rounds asks counts = record { rounds = rounds; asks = asks; counts = counts }

-- ordered as they may be, the asks of each round are those of the requests
in-round : (t : Tables) (rounds : ℕ) (requests : List Request) (filed asks : List PlacedAsk) (counts : Counts) →
    IsFiled t rounds requests filed counts → ((round : ℕ) → of_round asks round ≡ of_round filed round) →
    (round : ℕ) → of_round asks round ≡ asks_at t rounds requests round
in-round t rounds requests filed asks counts is same round = same round ∙ is.asks round

pub lawful-trace : (t : Tables) (rounds : ℕ) (requests : List Request) (filed asks : List PlacedAsk) (counts : Counts) →
    AreTables t → AreRequests requests → IsFiled t rounds requests filed counts →
    ((round : ℕ) → of_round asks round ≡ of_round filed round) →
    IsTrace (made rounds asks counts)
lawful-trace t rounds requests filed asks counts are sound is same =
    let all : (round : ℕ) → of_round asks round ≡ asks_at t rounds requests round =
    in-round t rounds requests filed asks counts is same in
    record {
      few = few-of t rounds requests (made rounds asks counts) sound all;
      small = λ round. rw (all round) (all-small t rounds requests round are sound.small);
      none_late = λ round late. all round ∙ none-late t rounds requests round late;
      asked = asked-of t rounds requests (made rounds asks counts) are sound all;
    }

pub trace-of : (t : Tables) (rounds : ℕ) (requests : List Request) (filed asks : List PlacedAsk) (counts : Counts) →
    IsFiled t rounds requests filed counts → ((round : ℕ) → of_round asks round ≡ of_round filed round) →
    IsTraceOf t rounds requests (made rounds asks counts)
trace-of t rounds requests filed asks counts is same =
    let all : (round : ℕ) → of_round asks round ≡ asks_at t rounds requests round =
    in-round t rounds requests filed asks counts is same in
    record {
      run = refl;
      asks = all;
      counts = is.counted;
      known = λ round. rw (all round) (all-known t rounds requests round);
      cut = λ round. ap (cut_of (length (words_of t))) (all round) ∙ sums-are-cut t rounds requests round;
    }
