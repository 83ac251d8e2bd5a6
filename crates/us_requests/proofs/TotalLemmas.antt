-- The asks of sound requests: what they add up to, that none is late, and that each names a word that is there.
use Rattle.std.proofs.Common.{◌≡◌, ℕ, zero, suc, ◌+◌, ◌*◌, ◌<◌, ◌≤◌, Bool, true, false, List, [], ◌∷◌, ◌++◌, length, map, Option, Some, None, refl, ap, ◌∙◌, inl, inr, arith}
use Rattle.std.specs.Prelude.{sum_by, ◌==◌, ◌&&◌, nat_lt, if◌then◌else◌, slice_get, flat_map}
use Rattle.std.specs.List.{cons_option, AllByRecursion, range_with_len}
use Rattle.std.proofs.lemmas.Bool.{cases_eq, eq-eqb, ne_eqb, le-ltb, and_right}
use Rattle.std.proofs.lemmas.List.Sums.{sum_by-cons, sum_by-le-sum_by}
use Rattle.std.proofs.lemmas.Nat.{mul-le}
use Rattle.std.proofs.Math.Nat.{mul-suc}
use Rattle.us_flows.specs.Tables.{Tables, FlowTable}
use Rattle.us_flows.specs.Clusters.{Word, Requests, clusters_from, flow_of_word, lookup, words_in, words_of}
use Rattle.us_flows.specs.declared.flows.SchedulingType.{SchedulingType}
use Rattle.us_flows.specs.declared.flows.SchedulingType.TheVariants.{BestEffort, NonRealTimePolling, RealTimePolling, ActivityDetection, UnsolicitedGrant}
use Rattle.us_flows.proofs.WordLemmas.{words_by}
use Rattle.us_flows.specs.Lawful.{AreTables, IsFlow}
use Rattle.us_flows.specs.declared.found.Found.{Found}
use Rattle.us_flows.specs.declared.found.Found.TheVariants as found
use Rattle.us_requests.specs.declared.asks.Ask.{Ask}
use Rattle.us_requests.specs.declared.requests.Kind.{Kind}
use Rattle.us_requests.specs.declared.requests.Kind.TheVariants as kinds
use Rattle.us_requests.specs.Asks.{Request, round_of_tick, unit_of, ask_of, ask_for, asks_at}
use Rattle.us_requests.specs.Traces.{TraceAsks, asks_in, asks_before, asked_before, max_asks, max_ask, max_asked}
use Rattle.us_requests.specs.Readings.{AreRequests}
use Rattle.us_requests.proofs.AskLemmas.{activity-within, cluster-within}

-- the ask of a request in a round
abbrev ask_in : Tables → ℕ → ℕ → Request → Option Ask
ask_in t rounds round q = if (round_of_tick t q.tick == round) && nat_lt round rounds then ask_of t q else None

-- from the end of the run on there are none
pub none-late : (t : Tables) (rounds : ℕ) (requests : List Request) (round : ℕ) → rounds ≤ round →
    asks_at t rounds requests round ≡ []
unfolding asks_at
none-late t rounds [] round late = refl
none-late t rounds (q ∷ rest) round late =
    let no : ((round_of_tick t q.tick == round) && nat_lt round rounds) ≡ false =
    and_right (round_of_tick t q.tick == round) (nat_lt round rounds) (le-ltb round rounds late) in
    ap (λ b. cons_option (if b then ask_of t q else None) (asks_at t rounds rest round)) no ∙
    none-late t rounds rest round late

-- each names a word that is there
abbrev IsKnown : Tables → Option Ask → Type 0
IsKnown t None = Unit {0}
IsKnown t (Some ask) = ask.cluster < length (words_of t)

known-ask : (t : Tables) (channel sid units : ℕ) (kind : Kind) (o : Option Found) → lookup t channel sid ≡ o →
    IsKnown t (ask_for t kind units o)
known-ask t channel sid units kinds.Request None is = tt
known-ask t channel sid units kinds.Request (Some found.Unsolicited) is = tt
known-ask t channel sid units kinds.Request (Some (found.Activity number)) is = tt
known-ask t channel sid units kinds.Request (Some (found.Cluster number)) is = cluster-within t channel sid number is
known-ask t channel sid units kinds.Silent None is = tt
known-ask t channel sid units kinds.Silent (Some found.Unsolicited) is = tt
known-ask t channel sid units kinds.Silent (Some (found.Activity number)) is =
    let within = activity-within t channel sid number is in omega (arith, within)
known-ask t channel sid units kinds.Silent (Some (found.Cluster number)) is = tt
known-ask t channel sid units kinds.Active None is = tt
known-ask t channel sid units kinds.Active (Some found.Unsolicited) is = tt
known-ask t channel sid units kinds.Active (Some (found.Activity number)) is = activity-within t channel sid number is
known-ask t channel sid units kinds.Active (Some (found.Cluster number)) is = tt

known-in : (t : Tables) (b : Bool) (o : Option Ask) → IsKnown t o → IsKnown t (if b then o else None)
known-in t true o is = is
known-in t false o is = tt

known-cons : (t : Tables) (o : Option Ask) (asks : List Ask) → IsKnown t o →
    AllByRecursion (λ ask. ask.cluster < length (words_of t)) asks →
    AllByRecursion (λ ask. ask.cluster < length (words_of t)) (cons_option o asks)
known-cons t None asks first rest = rest
known-cons t (Some ask) asks first rest = (first, rest)

pub all-known : (t : Tables) (rounds : ℕ) (requests : List Request) (round : ℕ) →
    AllByRecursion (λ ask. ask.cluster < length (words_of t)) (asks_at t rounds requests round)
unfolding asks_at
all-known t rounds [] round = tt
all-known t rounds (q ∷ rest) round =
    known-cons t (ask_in t rounds round q) (asks_at t rounds rest round)
    (known-in t ((round_of_tick t q.tick == round) && nat_lt round rounds) (ask_of t q)
    (known-ask t q.channel q.sid q.units q.kind (lookup t q.channel q.sid) refl))
    (all-known t rounds rest round)

-- a unit has at most 16 bytes
abbrev IsSmall : Word → Type 0
IsSmall word = (flow_of_word word).unit ≤ 16

small-from : (flow : FlowTable) (list : ℕ) (sids : List (List ℕ)) (more : List Word) → flow.unit ≤ 16 →
    AllByRecursion IsSmall more → AllByRecursion IsSmall (map Requests (clusters_from flow list sids) ++ more)
small-from flow list [] more small rest = rest
small-from flow list (first ∷ sids) more small rest = (small, small-from flow (list + 1) sids more small rest)

-- whatever the words of a flow are
small-flow : (flow : FlowTable) (kind : SchedulingType) (more : List Word) → flow.unit ≤ 16 →
    AllByRecursion IsSmall more →
    AllByRecursion IsSmall (words_by flow kind (clusters_from flow 0 flow.clusters) ++ more)
small-flow flow BestEffort more small rest = small-from flow 0 flow.clusters more small rest
small-flow flow NonRealTimePolling more small rest = small-from flow 0 flow.clusters more small rest
small-flow flow RealTimePolling more small rest = small-from flow 0 flow.clusters more small rest
small-flow flow ActivityDetection more small rest = (small, (small, rest))
small-flow flow UnsolicitedGrant more small rest = rest

small-all : (t : Tables) (flows : List FlowTable) → AllByRecursion (IsFlow t) flows →
    AllByRecursion IsSmall (flat_map words_in flows)
small-all t [] are = tt
small-all t (flow ∷ flows) are =
    small-flow flow flow.kind (flat_map words_in flows) are.0.unit (small-all t flows are.1)

small-unit : (words : List Word) (number : ℕ) → AllByRecursion IsSmall words →
    unit_of (slice_get words number) ≤ 16
small-unit [] number are = omega arith
small-unit (word ∷ rest) zero are = are.0
small-unit (word ∷ rest) (suc number) are = small-unit rest number are.1

-- what an ask weighs, where there is one
abbrev weigh : (Ask → ℕ) → Option Ask → ℕ
weigh weight None = 0
weigh weight (Some ask) = weight ask

abbrev bytes_of : Option Ask → ℕ
bytes_of o = weigh (λ ask. ask.bytes) o

small-ask : (t : Tables) (kind : Kind) (units : ℕ) (o : Option Found) → AreTables t → units ≤ 65535 →
    bytes_of (ask_for t kind units o) ≤ max_ask
small-ask t kinds.Request units None are small = omega arith
small-ask t kinds.Request units (Some found.Unsolicited) are small = omega arith
small-ask t kinds.Request units (Some (found.Activity number)) are small = omega arith
small-ask t kinds.Request units (Some (found.Cluster number)) are small =
    let unit : unit_of (slice_get (words_of t) number) ≤ 16 = small-unit (words_of t) number
    (small-all t t.flows are.flows) in
    omega (arith, mul-le units (unit_of (slice_get (words_of t) number)) 65535 16 small unit)
small-ask t kinds.Silent units None are small = omega arith
small-ask t kinds.Silent units (Some found.Unsolicited) are small = omega arith
small-ask t kinds.Silent units (Some (found.Activity number)) are small = omega arith
small-ask t kinds.Silent units (Some (found.Cluster number)) are small = omega arith
small-ask t kinds.Active units None are small = omega arith
small-ask t kinds.Active units (Some found.Unsolicited) are small = omega arith
small-ask t kinds.Active units (Some (found.Activity number)) are small = omega arith
small-ask t kinds.Active units (Some (found.Cluster number)) are small = omega arith

-- so each ask of a round is small
small-in-round : (t : Tables) (b : Bool) (o : Option Ask) (asks : List Ask) → bytes_of o ≤ max_ask →
    AllByRecursion (λ ask. ask.bytes ≤ max_ask) asks →
    AllByRecursion (λ ask. ask.bytes ≤ max_ask) (cons_option (if b then o else None) asks)
small-in-round t true None asks small rest = rest
small-in-round t true (Some ask) asks small rest = (small, rest)
small-in-round t false o asks small rest = rest

pub all-small : (t : Tables) (rounds : ℕ) (requests : List Request) (round : ℕ) → AreTables t →
    AllByRecursion (λ q. q.units ≤ 65535) requests →
    AllByRecursion (λ ask. ask.bytes ≤ max_ask) (asks_at t rounds requests round)
unfolding asks_at
all-small t rounds [] round are small = tt
all-small t rounds (q ∷ rest) round are small =
    small-in-round t ((round_of_tick t q.tick == round) && nat_lt round rounds) (ask_of t q) (asks_at t rounds rest round)
    (small-ask t q.kind q.units (lookup t q.channel q.sid) are small.0) (all-small t rounds rest round are small.1)

-- Sums over all rounds, of any weight that asks have.

-- what a request adds to the sum of a round
light-in : (weight : Ask → ℕ) (most : ℕ) (a b : Bool) (o : Option Ask) → weigh weight o ≤ most →
    weigh weight (if a && b then o else None) ≤ (if a then most else 0)
light-in weight most true true o light = light
light-in weight most true false o light = omega arith
light-in weight most false b o light = omega arith

weigh-cons : (weight : Ask → ℕ) (o : Option Ask) (asks : List Ask) →
    sum_by weight (cons_option o asks) ≡ weigh weight o + sum_by weight asks
weigh-cons weight None asks = omega arith
weigh-cons weight (Some ask) asks = sum_by-cons weight ask asks

-- sums over rounds
sum-zero : (xs : List ℕ) → sum_by (λ x. 0) xs ≡ 0
sum-zero [] = refl
sum-zero (x ∷ xs) = omega (arith, sum_by-cons (λ x. 0) x xs, sum-zero xs)

sum-plus : (f g : ℕ → ℕ) (xs : List ℕ) → sum_by (λ x. f x + g x) xs ≡ sum_by f xs + sum_by g xs
sum-plus f g [] = refl
sum-plus f g (x ∷ xs) = omega (
  arith,
  sum_by-cons (λ x. f x + g x) x xs,
  sum_by-cons f x xs,
  sum_by-cons g x xs,
  sum-plus f g xs,
)

-- of one round alone
abbrev only_at : ℕ → ℕ → ℕ → ℕ
only_at most k x = if k == x then most else 0

sum-past : (most k from n : ℕ) → k < from → sum_by (only_at most k) (range_with_len from n) ≡ 0
sum-past most k from zero past = refl
sum-past most k from (suc n) past =
    let no : only_at most k from ≡ 0 = ap (λ b. if b then most else 0) (ne_eqb k from (λ same. omega arith)) in
    omega (
      arith,
      sum_by-cons (only_at most k) from (range_with_len (from + 1) n),
      sum-past most k (from + 1) n (omega arith),
      no,
    )

sum-one : (most k from n : ℕ) → sum_by (only_at most k) (range_with_len from n) ≤ most
sum-one most k from zero = omega arith
sum-one most k from (suc n) = elim (cases_eq k from) [
  | inl same ↦
      let here : only_at most k from ≡ most = ap (λ b. if b then most else 0) (eq-eqb k from same) in
      omega (
        arith,
        sum_by-cons (only_at most k) from (range_with_len (from + 1) n),
        sum-past most k (from + 1) n (omega arith),
        here,
      )
  | inr other ↦
      let no : only_at most k from ≡ 0 = ap (λ b. if b then most else 0) (ne_eqb k from other) in
      omega (arith, sum_by-cons (only_at most k) from (range_with_len (from + 1) n), sum-one most k (from + 1) n, no)
]

-- each request weighs so much at most, in one round
few-weighed : (t : Tables) (rounds n : ℕ) (weight : Ask → ℕ) (most : ℕ) →
    ((q : Request) → q.units ≤ 65535 → weigh weight (ask_of t q) ≤ most) → (requests : List Request) →
    AllByRecursion (λ q. q.units ≤ 65535) requests →
    sum_by (λ round. sum_by weight (asks_at t rounds requests round)) (range_with_len 0 n) ≤ most * length requests
unfolding asks_at
few-weighed t rounds n weight most light [] small = omega (arith, sum-zero (range_with_len 0 n))
few-weighed t rounds n weight most light (q ∷ rest) small =
    let first : ℕ → ℕ = only_at most (round_of_tick t q.tick) in
    let others : ℕ → ℕ = λ round. sum_by weight (asks_at t rounds rest round) in
    let each : (round : ℕ) → sum_by weight (asks_at t rounds (q ∷ rest) round) ≤ first round + others round =
    λ round. omega (
      arith,
      weigh-cons weight (ask_in t rounds round q) (asks_at t rounds rest round),
      light-in weight most (round_of_tick t q.tick == round) (nat_lt round rounds) (ask_of t q) (light q small.0),
    ) in
    omega (
      arith,
      sum_by-le-sum_by (λ round. sum_by weight (asks_at t rounds (q ∷ rest) round)) (λ round. first round + others round)
          (range_with_len 0 n) each,
      sum-plus first others (range_with_len 0 n),
      sum-one most (round_of_tick t q.tick) 0 n,
      few-weighed t rounds n weight most light rest small.1,
      mul-suc most (length rest),
    )

-- of a trace's own asks, round by round
weighed-of : (t : Tables) (rounds : ℕ) (requests : List Request) (trace : TraceAsks) (weight : Ask → ℕ) (most : ℕ) →
    ((q : Request) → q.units ≤ 65535 → weigh weight (ask_of t q) ≤ most) → AreRequests requests →
    ((round : ℕ) → asks_in trace round ≡ asks_at t rounds requests round) → (n : ℕ) →
    sum_by (λ round. sum_by weight (asks_in trace round)) (range_with_len 0 n) ≤ most * length requests
weighed-of t rounds requests trace weight most light sound asks n =
    let same : asks_in trace ≡ asks_at t rounds requests = λ i round. asks round i in
    omega (
      arith,
      ap (λ f. sum_by (λ round. sum_by weight (f round)) (range_with_len 0 n)) same,
      few-weighed t rounds n weight most light requests sound.small,
    )

-- the bytes of all
pub asked-of : (t : Tables) (rounds : ℕ) (requests : List Request) (trace : TraceAsks) → AreTables t →
    AreRequests requests → ((round : ℕ) → asks_in trace round ≡ asks_at t rounds requests round) → (n : ℕ) →
    asked_before trace n ≤ max_asked
asked-of t rounds requests trace are sound asks n = omega (
  arith,
  weighed-of t rounds requests trace (λ ask. ask.bytes) max_ask
      (λ q small. small-ask t q.kind q.units (lookup t q.channel q.sid) are small) sound asks n,
  sound.few,
)

-- how many there are
counted-one : (asks : List Ask) → sum_by (λ ask. 1) asks ≡ length asks
counted-one [] = refl
counted-one (ask ∷ asks) = omega (arith, sum_by-cons (λ ask. 1) ask asks, counted-one asks)

weigh-one : (o : Option Ask) → weigh (λ ask. 1) o ≤ 1
weigh-one None = omega arith
weigh-one (Some ask) = omega arith

pub few-of : (t : Tables) (rounds : ℕ) (requests : List Request) (trace : TraceAsks) → AreRequests requests →
    ((round : ℕ) → asks_in trace round ≡ asks_at t rounds requests round) → (n : ℕ) → asks_before trace n ≤ max_asks
few-of t rounds requests trace sound asks n =
    let ones : ℕ → ℕ = λ round. sum_by (λ ask. 1) (asks_in trace round) in
    let counts : ℕ → ℕ = λ round. length (asks_in trace round) in
    let same : ones ≡ counts = λ i round. counted-one (asks_in trace round) i in
    omega (
      arith,
      ap (λ f. sum_by f (range_with_len 0 n)) same,
      weighed-of t rounds requests trace (λ ask. 1) 1 (λ q small. weigh-one (ask_of t q)) sound asks n,
      sound.few,
    )
