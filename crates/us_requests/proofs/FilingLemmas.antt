-- Filing requests: what is left gives what all of them give.
use Rattle.std.proofs.Common.{◌≡◌, ℕ, ◌+◌, ◌<◌, ◌≤◌, Bool, true, false, List, [], ◌∷◌, ◌++◌, length, map, Option, Some, None, refl, ap, sym, ◌∙◌, append_assoc, append-nil, inl, inr, arith}
use Rattle.std.specs.Prelude.{is_none, count_by, filter, ◌==◌, ◌&&◌, nat_lt, if◌then◌else◌, cond}
use Rattle.std.specs.List.{cons_option}
use Rattle.std.proofs.lemmas.Bool.{cases_eq, lt-ltb, le-ltb, eq-eqb, ne_eqb, and_left, and_right}
use Rattle.std.proofs.lemmas.List.{length-append, map-append}
use Rattle.std.proofs.lemmas.List.Elements.{filter-append}
use Rattle.std.proofs.lemmas.List.Sums.{sum_by-cons}
use Rattle.us_flows.specs.Tables.{Tables}
use Rattle.us_flows.specs.Clusters.{lookup}
use Rattle.us_flows.specs.declared.found.Found.{Found}
use Rattle.us_requests.specs.declared.asks.Ask.{Ask}
use Rattle.us_requests.specs.declared.requests.Kind.{Kind}
use Rattle.us_requests.specs.declared.requests.Kind.TheVariants as kinds
use Rattle.us_requests.specs.declared.asks.Counts.{Counts}
use Rattle.us_requests.specs.declared.outcomes.Outcome.{Outcome}
use Rattle.us_requests.specs.declared.outcomes.Outcome.TheVariants as outcome
use Rattle.us_requests.specs.declared.placed.PlacedAsk.{PlacedAsk}
use Rattle.us_requests.specs.Asks.{Request, round_of_tick, ask_of, ask_for, asks_at, is_unknown, is_not_requestable, is_late, counts_of}
use Rattle.us_requests.specs.Traces.{of_round}
use Rattle.us_requests.specs.Outcomes.{Becomes, IsFiled, added, counted}

-- the asks of a round in two lists, one behind the other
pub of_round-append : (asks more : List PlacedAsk) (round : ℕ) →
    of_round (asks ++ more) round ≡ of_round asks round ++ of_round more round
unfolding of_round
of_round-append asks more round =
    ap (map (λ placed. placed.ask)) (filter-append (λ placed. placed.round == round) asks more) ∙
    map-append (λ placed. placed.ask) (filter (λ placed. placed.round == round) asks)
    (filter (λ placed. placed.round == round) more)

-- of these requests, those that are left: the asks and the counts have what the others gave
pub record IsPartFiled (t : Tables) (rounds : ℕ) (requests left : List Request) (placed : List PlacedAsk)
    (counts : Counts) : Type 0 where
  pub asks : (round : ℕ) → of_round placed round ++ asks_at t rounds left round ≡ asks_at t rounds requests round
  pub unknown : counts.unknown + count_by (is_unknown t) left ≡ count_by (is_unknown t) requests
  pub not_requestable :
      counts.not_requestable + count_by (is_not_requestable t) left ≡ count_by (is_not_requestable t) requests
  pub late : counts.late + count_by (is_late t rounds) left ≡ count_by (is_late t rounds) requests
  pub few : length placed + length left ≤ length requests

pub filing-start : (t : Tables) (rounds : ℕ) (requests : List Request) (placed : List PlacedAsk) (counts : Counts) →
    placed ≡ [] → counts ≡ record { unknown = 0; not_requestable = 0; late = 0 } →
    IsPartFiled t rounds requests requests placed counts
unfolding of_round
filing-start t rounds requests placed counts empty none = record {
  asks = λ round. ap (λ placed. of_round placed round ++ asks_at t rounds requests round) empty;
  unknown = omega (arith, ap (λ c. c.unknown) none);
  not_requestable = omega (arith, ap (λ c. c.not_requestable) none);
  late = omega (arith, ap (λ c. c.late) none);
  few = omega (arith, ap length empty);
}

-- what the next request adds
record Adds (t : Tables) (rounds : ℕ) (q : Request) (o : Outcome) : Type 0 where
  asks : (rest : List Request) (round : ℕ) →
      asks_at t rounds (q ∷ rest) round ≡ of_round (added o) round ++ asks_at t rounds rest round
  unknown : (counts : Counts) → counts.unknown + (if is_unknown t q then 1 else 0) ≡ (counted o counts).unknown
  not_requestable : (counts : Counts) →
      counts.not_requestable + (if is_not_requestable t q then 1 else 0) ≡ (counted o counts).not_requestable
  late : (counts : Counts) → counts.late + (if is_late t rounds q then 1 else 0) ≡ (counted o counts).late

-- nothing, where the request is no ask
no-ask : (b : Bool) (o : Option Ask) (asks : List Ask) → o ≡ None → cons_option (if b then o else None) asks ≡ asks
no-ask true o asks none = ap (λ o. cons_option o asks) none
no-ask false o asks none = refl

-- or where its round is behind the end of the run
past-end : (own round rounds : ℕ) → rounds ≤ own → ((own == round) && nat_lt round rounds) ≡ false
past-end own round rounds late = elim (cases_eq own round) [
  | inl same ↦ and_right (own == round) (nat_lt round rounds) (le-ltb round rounds (omega arith))
  | inr other ↦ and_left (own == round) (nat_lt round rounds) (ne_eqb own round other)
]

-- an ask, where it stands in its round
one-ask : (own round rounds : ℕ) (placed : PlacedAsk) (asks : List Ask) → own ≡ placed.round → own < rounds →
    cons_option (if (own == round) && nat_lt round rounds then Some placed.ask else None) asks ≡
    of_round (placed ∷ []) round ++ asks
unfolding of_round
one-ask own round rounds placed asks same within = elim (cases_eq own round) [
  | inl here ↦ rw (eq-eqb own round here, lt-ltb round rounds (omega arith), eq-eqb placed.round round (sym same ∙ here)) refl
  | inr other ↦ rw (ne_eqb own round other, ne_eqb placed.round round (λ here. other (same ∙ here))) refl
]

-- what was not found asks for nothing
nothing-found : (t : Tables) (kind : Kind) (units : ℕ) → ask_for t kind units None ≡ None
nothing-found t kinds.Request units = refl
nothing-found t kinds.Silent units = refl
nothing-found t kinds.Active units = refl

-- so that of what asks something was found
known : (t : Tables) (kind : Kind) (units : ℕ) (o : Option Found) (ask : Ask) → ask_for t kind units o ≡ Some ask →
    is_none o ≡ false
known t kind units None ask made = let no : None ≡ Some ask = sym (nothing-found t kind units) ∙ made in cc
known t kind units (Some what) ask made = refl

adds : (t : Tables) (rounds : ℕ) (q : Request) (o : Outcome) → Becomes t rounds q o → Adds t rounds q o
unfolding asks_at of_round
adds t rounds q outcome.Unknown is = record {
  asks = λ rest round. no-ask ((round_of_tick t q.tick == round) && nat_lt round rounds) (ask_of t q)
      (asks_at t rounds rest round) (ap (λ o. ask_for t q.kind q.units o) is ∙ nothing-found t q.kind q.units);
  unknown = λ counts. rw is refl;
  not_requestable = λ counts. rw is (omega arith);
  late = λ counts. rw is (omega arith);
}
adds t rounds q outcome.NotRequestable is =
    let what : Option Found = Some is.0 in
    let none : ask_of t q ≡ None = ap (λ o. ask_for t q.kind q.units o) is.1 ∙ is.2 in
    record {
      asks = λ rest round. no-ask ((round_of_tick t q.tick == round) && nat_lt round rounds) (ask_of t q)
          (asks_at t rounds rest round) none;
      unknown = λ counts. rw is.1 (omega arith);
      not_requestable = λ counts. rw (is.1, is.2) refl;
      late = λ counts. rw (is.1, is.2) (omega arith);
    }
adds t rounds q outcome.Late is =
    let there : is_unknown t q ≡ false = known t q.kind q.units (lookup t q.channel q.sid) is.0 is.1 in record {
      asks = λ rest round. ap (λ b. cons_option (if b then ask_of t q else None) (asks_at t rounds rest round))
          (past-end (round_of_tick t q.tick) round rounds is.2);
      unknown = λ counts. rw there (omega arith);
      not_requestable = λ counts. rw (there, is.1) (omega arith);
      late = λ counts. rw (there, is.1, le-ltb (round_of_tick t q.tick) rounds is.2) refl;
    }
adds t rounds q (outcome.Asked placed) is =
    let when : round_of_tick t q.tick ≡ placed.round = is.1 in
    let there : is_unknown t q ≡ false = known t q.kind q.units (lookup t q.channel q.sid) placed.ask is.0 in
    let early : nat_lt (round_of_tick t q.tick) rounds ≡ true =
    lt-ltb (round_of_tick t q.tick) rounds (omega (arith, when, is.2)) in
    record {
      asks = λ rest round.
          ap (λ o. cons_option (if (round_of_tick t q.tick == round) && nat_lt round rounds then o else None)
          (asks_at t rounds rest round)) is.0 ∙
          one-ask (round_of_tick t q.tick) round rounds placed (asks_at t rounds rest round) when
          (omega (arith, when, is.2));
      unknown = λ counts. rw there (omega arith);
      not_requestable = λ counts. rw (there, is.0) (omega arith);
      late = λ counts. rw (there, is.0, early) (omega arith);
    }

-- an ask or nothing
added-few : (o : Outcome) → length (added o) ≤ 1
added-few outcome.Unknown = omega arith
added-few outcome.NotRequestable = omega arith
added-few outcome.Late = omega arith
added-few (outcome.Asked placed) = omega arith

pub request-filed : (t : Tables) (rounds : ℕ) (requests rest : List Request) (q : Request)
    (placed later : List PlacedAsk)
    (counts : Counts) (o : Outcome) → IsPartFiled t rounds requests (q ∷ rest) placed counts → Becomes t rounds q o →
    later ≡ placed ++ added o → IsPartFiled t rounds requests rest later (counted o counts)
request-filed t rounds requests rest q placed later counts o is becomes more = let a : Adds t rounds q o =
    adds t rounds q o becomes in record {
      asks = λ round. ap (λ asks. of_round asks round ++ asks_at t rounds rest round) more ∙
          ap (λ asks. asks ++ asks_at t rounds rest round) (of_round-append placed (added o) round) ∙
          append_assoc (of_round placed round) (of_round (added o) round) (asks_at t rounds rest round) ∙
          ap (λ asks. of_round placed round ++ asks) (sym (a.asks rest round)) ∙ is.asks round;
      unknown = omega (arith, a.unknown counts, sum_by-cons (λ q. cond (is_unknown t q) 1 0) q rest, is.unknown);
      not_requestable = omega (
        arith,
        a.not_requestable counts,
        sum_by-cons (λ q. cond (is_not_requestable t q) 1 0) q rest,
        is.not_requestable,
      );
      late = omega (arith, a.late counts, sum_by-cons (λ q. cond (is_late t rounds q) 1 0) q rest, is.late);
      few = omega (arith, ap length more, length-append placed (added o), added-few o, is.few);
    }

-- a count rises by one at most
pub counts-rise : (o : Outcome) (counts : Counts) (n : ℕ) → counts.unknown ≤ n → counts.not_requestable ≤ n →
    counts.late ≤ n →
    ((counted o counts).unknown ≤ n + 1) × ((counted o counts).not_requestable ≤ n + 1) ×
    ((counted o counts).late ≤ n + 1)
counts-rise outcome.Unknown counts n a b c = (omega arith, omega arith, omega arith)
counts-rise outcome.NotRequestable counts n a b c = (omega arith, omega arith, omega arith)
counts-rise outcome.Late counts n a b c = (omega arith, omega arith, omega arith)
counts-rise (outcome.Asked placed) counts n a b c = (omega arith, omega arith, omega arith)

-- all requests were filed
pub all-filed : (t : Tables) (rounds : ℕ) (requests : List Request) (placed : List PlacedAsk) (counts : Counts) →
    IsPartFiled t rounds requests [] placed counts → IsFiled t rounds requests placed counts
unfolding asks_at counts_of
all-filed t rounds requests placed counts is =
    let u : counts.unknown ≡ count_by (is_unknown t) requests = omega (arith, is.unknown) in
    let n : counts.not_requestable ≡ count_by (is_not_requestable t) requests = omega (arith, is.not_requestable) in
    let l : counts.late ≡ count_by (is_late t rounds) requests = omega (arith, is.late) in
    record {
      asks = λ round. sym (append-nil (of_round placed round)) ∙ is.asks round;
      counted = rw (u, n, l) refl;
      few = omega (arith, is.few);
    }
