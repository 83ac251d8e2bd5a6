-- Cuts: the sums of a round's asks are the sums over the requests, and requests in another order have the same.
use Rattle.std.proofs.Common.{◌≡◌, ℕ, ◌+◌, ◌*◌, Bool, true, false, List, [], ◌∷◌, length, map, Option, Some, None, refl, ap, sym, ◌∙◌, inl, inr, arith}
use Rattle.std.specs.Prelude.{sum_by, count_by, filter, ◌==◌, ◌&&◌, nat_lt, if◌then◌else◌, cond, slice_get}
use Rattle.std.specs.List.{cons_option, range_with_len}
use Rattle.std.specs.List.Sorted.{IsPermutation}
use Rattle.std.proofs.lemmas.Bool.{cases_eq, eq-eqb, ne_eqb}
use Rattle.std.proofs.lemmas.List.Sums.{sum_by-cons}
use Rattle.std.proofs.lemmas.List.Sorted.{sum_by-IsPermutation}
use Rattle.us_flows.specs.Tables.{Tables}
use Rattle.us_flows.specs.Clusters.{words_of, lookup}
use Rattle.us_flows.specs.declared.found.Found.{Found}
use Rattle.us_flows.specs.declared.found.Found.TheVariants as found
use Rattle.us_requests.specs.declared.asks.Ask.{Ask}
use Rattle.us_requests.specs.declared.requests.Kind.{Kind}
use Rattle.us_requests.specs.declared.requests.Kind.TheVariants as kinds
use Rattle.us_requests.specs.Asks.{Request, round_of_tick, unit_of, ask_of, ask_for, asks_at, is_unknown, is_not_requestable, is_late, counts_of}
use Rattle.us_requests.specs.Cuts.{asks_by, bytes_by, is_ask, cut, cut_at, asked, cut_of, OrderIsNothing}

-- a sum over those that pass a test is one over all, of nothing where they don't
sum-kept : {A : Type 0} → (f : A → ℕ) (passes : Bool) (x : A) (xs : List A) →
    sum_by f (cond passes (x ∷ xs) xs) ≡ (if passes then f x else 0) + sum_by f xs
sum-kept f true x xs = sum_by-cons f x xs
sum-kept f false x xs = omega arith

sum-filtered : {A : Type 0} → (f : A → ℕ) (p : A → Bool) (xs : List A) →
    sum_by f (filter p xs) ≡ sum_by (λ x. if p x then f x else 0) xs
sum-filtered f p [] = refl
sum-filtered f p (x ∷ xs) = omega (
  arith,
  sum-kept f (p x) x (filter p xs),
  sum_by-cons (λ x. if p x then f x else 0) x xs,
  sum-filtered f p xs,
)

-- what a request asks for by a word in a round
abbrev bytes_at : Tables → ℕ → ℕ → ℕ → Request → ℕ
bytes_at t rounds round word q =
    if is_ask t rounds round word q then bytes_by t word q.kind q.units else 0

cut-sum : (t : Tables) (rounds : ℕ) (requests : List Request) (round word : ℕ) →
    cut t rounds requests round word ≡ sum_by (bytes_at t rounds round word) requests
unfolding cut
cut-sum t rounds requests round word =
    sum-filtered (λ q. bytes_by t word q.kind q.units) (is_ask t rounds round word) requests

-- the bytes by a word in an ask
abbrev bytes_in : ℕ → Option Ask → ℕ
bytes_in word None = 0
bytes_in word (Some ask) = if ask.cluster == word then ask.bytes else 0

asked-cons : (o : Option Ask) (asks : List Ask) (word : ℕ) →
    asked (cons_option o asks) word ≡ bytes_in word o + asked asks word
asked-cons None asks word = omega arith
asked-cons (Some ask) asks word =
    sum-kept (λ ask. ask.bytes) (ask.cluster == word) ask (filter (λ ask. ask.cluster == word) asks)

-- a request's ask names what the request asks for

no-ask-bytes : (b : Bool) (bytes word : ℕ) →
    bytes_in word (if b then None else None) ≡ (if false && b then bytes else 0)
no-ask-bytes true bytes word = refl
no-ask-bytes false bytes word = refl

-- an ask by the word of a number, of bytes that depend on the word
one-ask-bytes : (b : Bool) (bytes : ℕ → ℕ) (number word : ℕ) →
    bytes_in word (if b then Some (record { cluster = number; bytes = bytes number }) else None) ≡
    (if (number == word) && b then bytes word else 0)
one-ask-bytes true bytes number word = elim (cases_eq number word) [
  | inl same ↦ rw (eq-eqb number word same) (ap bytes same)
  | inr other ↦ rw (ne_eqb number word other) refl
]
one-ask-bytes false bytes number word = elim (cases_eq number word) [
  | inl same ↦ rw (eq-eqb number word same) refl
  | inr other ↦ rw (ne_eqb number word other) refl
]

ask-bytes : (t : Tables) (b : Bool) (kind : Kind) (units word : ℕ) (o : Option Found) →
    bytes_in word (if b then ask_for t kind units o else None) ≡
    (if asks_by word kind o && b then bytes_by t word kind units else 0)
ask-bytes t b kinds.Request units word None = no-ask-bytes b (bytes_by t word kinds.Request units) word
ask-bytes t b kinds.Request units word (Some found.Unsolicited) = no-ask-bytes b (bytes_by t word kinds.Request units) word
ask-bytes t b kinds.Request units word (Some (found.Activity number)) = no-ask-bytes b (bytes_by t word kinds.Request units) word
ask-bytes t b kinds.Request units word (Some (found.Cluster number)) =
    one-ask-bytes b (λ n. units * unit_of (slice_get (words_of t) n)) number word
ask-bytes t b kinds.Silent units word None = no-ask-bytes b (bytes_by t word kinds.Silent units) word
ask-bytes t b kinds.Silent units word (Some found.Unsolicited) = no-ask-bytes b (bytes_by t word kinds.Silent units) word
ask-bytes t b kinds.Silent units word (Some (found.Activity number)) = one-ask-bytes b (λ n. 1) number word
ask-bytes t b kinds.Silent units word (Some (found.Cluster number)) = no-ask-bytes b (bytes_by t word kinds.Silent units) word
ask-bytes t b kinds.Active units word None = no-ask-bytes b (bytes_by t word kinds.Active units) word
ask-bytes t b kinds.Active units word (Some found.Unsolicited) = no-ask-bytes b (bytes_by t word kinds.Active units) word
ask-bytes t b kinds.Active units word (Some (found.Activity number)) = one-ask-bytes b (λ n. 1) (number + 1) word
ask-bytes t b kinds.Active units word (Some (found.Cluster number)) = no-ask-bytes b (bytes_by t word kinds.Active units) word

asked-sum : (t : Tables) (rounds : ℕ) (requests : List Request) (round word : ℕ) →
    asked (asks_at t rounds requests round) word ≡ sum_by (bytes_at t rounds round word) requests
unfolding asks_at
asked-sum t rounds [] round word = refl
asked-sum t rounds (q ∷ rest) round word =
    let here : Bool = (round_of_tick t q.tick == round) && nat_lt round rounds in
    omega (
      arith,
      asked-cons (if here then ask_of t q else None) (asks_at t rounds rest round) word,
      ask-bytes t here q.kind q.units word (lookup t q.channel q.sid),
      asked-sum t rounds rest round word,
      sum_by-cons (bytes_at t rounds round word) q rest,
    )

-- the asks of a round add up to its cut
pub sums-are-cut : (t : Tables) (rounds : ℕ) (requests : List Request) (round : ℕ) →
    cut_of (length (words_of t)) (asks_at t rounds requests round) ≡ cut_at t rounds requests round
unfolding cut_of cut_at
sums-are-cut t rounds requests round =
    let same : asked (asks_at t rounds requests round) ≡ cut t rounds requests round =
    λ i word. (asked-sum t rounds requests round word ∙ sym (cut-sum t rounds requests round word)) i in
    ap (λ f. map f (range_with_len 0 (length (words_of t)))) same

-- requests in another order
same-counts : (t : Tables) (rounds : ℕ) (requests others : List Request) → IsPermutation requests others →
    counts_of t rounds others ≡ counts_of t rounds requests
unfolding counts_of
same-counts t rounds requests others order =
    let u : count_by (is_unknown t) others ≡ count_by (is_unknown t) requests =
    sum_by-IsPermutation (λ q. cond (is_unknown t q) 1 0) requests others order in
    let n : count_by (is_not_requestable t) others ≡ count_by (is_not_requestable t) requests =
    sum_by-IsPermutation (λ q. cond (is_not_requestable t q) 1 0) requests others order in
    let l : count_by (is_late t rounds) others ≡ count_by (is_late t rounds) requests =
    sum_by-IsPermutation (λ q. cond (is_late t rounds q) 1 0) requests others order in
    rw (u, n, l) refl

same-cut : (t : Tables) (rounds : ℕ) (requests others : List Request) (round : ℕ) → IsPermutation requests others →
    cut_at t rounds others round ≡ cut_at t rounds requests round
unfolding cut_at
same-cut t rounds requests others round order =
    let same : cut t rounds others round ≡ cut t rounds requests round =
    λ i word. (cut-sum t rounds others round word ∙
    sum_by-IsPermutation (bytes_at t rounds round word) requests others order ∙
    sym (cut-sum t rounds requests round word)) i in
    ap (λ f. map f (range_with_len 0 (length (words_of t)))) same

pub any-order : OrderIsNothing
any-order t rounds requests others order =
    (λ round. same-cut t rounds requests others round order, same-counts t rounds requests others order)
