-- Cuts: what asks come to by word, and what one more of them adds.
use Rattle.std.proofs.Common.{◌≡◌, ◌≢◌, ℕ, ◌+◌, ◌==◌, ◌<◌, ◌≤◌, List, [], ◌∷◌, ◌++◌, length, map, filter, take, get_or, replicate, sum, sum_by, slice_index, refl, ap, sym, ◌∙◌, inl, inr, arith, eq-eqb, ne_eqb}
use Rattle.std.specs.List.{AllByRecursion, range_with_len}
use Rattle.std.proofs.lemmas.Bool.{cases_eq, cases_lt}
use Rattle.std.proofs.lemmas.List.{length-replicate, length-set, take_more}
use Rattle.std.proofs.lemmas.List.Elements.{filter-append}
use Rattle.std.proofs.lemmas.List.Sums.{sum_by-append, sum_by-cons}
use Rattle.std.proofs.lemmas.List.FromFn.{get_or-map-range_with_len, length-map-range_with_len}
use Rattle.us_slots.specs.Lists.{added}
use Rattle.us_intake.specs.Tallies.{raised}
use Rattle.us_intake.proofs.TallyLemmas.{index-empty, index-raised, more, more-else, more-here, same_tally, sum-added, sum-empty, sum-raised}
use Rattle.us_output.proofs.PartLemmas.{all_at}
use Rattle.us_requests.specs.declared.asks.Ask.{Ask}
use Rattle.us_requests.specs.Cuts.{asked, cut_of}

abbrev pub bytes_of : List Ask → ℕ
bytes_of asks = sum_by (λ (ask : Ask). ask.bytes) asks

pub length-cut : (n : ℕ) (asks : List Ask) → length (cut_of n asks) ≡ n
unfolding cut_of
length-cut n asks = length-map-range_with_len (asked asks) 0 n

pub index-cut : (n : ℕ) (asks : List Ask) (word : ℕ) → word < n → slice_index (cut_of n asks) word ≡ asked asks word
unfolding cut_of
index-cut n asks word lt = get_or-map-range_with_len (asked asks) 0 n word word 0 lt (omega arith)

-- an ask asks for nothing of another word
pub asked-else : (ask : Ask) (asks : List Ask) (word : ℕ) → ask.cluster ≢ word → asked (ask ∷ asks) word ≡ asked asks word
asked-else ask asks word other = rw (ne_eqb ask.cluster word other) refl

-- what one ask adds, to its own word alone
asked-one : (ask : Ask) (word : ℕ) → asked (ask ∷ []) word ≡ more ask.cluster ask.bytes word
asked-one ask word = elim (cases_eq ask.cluster word) [
  | inl own ↦
      let all : bytes_of (ask ∷ []) ≡ ask.bytes = omega (arith, sum_by-cons (λ (ask : Ask). ask.bytes) ask []) in
      rw (eq-eqb ask.cluster word own) (all ∙ sym (more-here ask.cluster ask.bytes word (sym own)))
  | inr other ↦
      asked-else ask [] word other ∙ sym (more-else ask.cluster ask.bytes word (λ e. other (sym e)))
]

asked-append : (asks others : List Ask) (word : ℕ) → asked (asks ++ others) word ≡ asked asks word + asked others word
asked-append asks others word =
    ap bytes_of (filter-append (λ (ask : Ask). ask.cluster == word) asks others) ∙
    sum_by-append (λ (ask : Ask). ask.bytes) (filter (λ (ask : Ask). ask.cluster == word) asks)
    (filter (λ (ask : Ask). ask.cluster == word) others)

-- functions of which one is the sum of two
added-map : (all f g : ℕ → ℕ) → ((i : ℕ) → all i ≡ f i + g i) → (is : List ℕ) →
    map all is ≡ added (map f is) (map g is)
added-map all f g split [] = refl
added-map all f g split (i ∷ is) =
    ap (λ n. n ∷ map all is) (split i) ∙ ap (λ l. (f i + g i) ∷ l) (added-map all f g split is)

pub cut-append : (n : ℕ) (asks others : List Ask) → cut_of n (asks ++ others) ≡ added (cut_of n asks) (cut_of n others)
unfolding cut_of
cut-append n asks others =
    added-map (asked (asks ++ others)) (asked asks) (asked others) (asked-append asks others) (range_with_len 0 n)

-- no asks, no bytes
pub cut-none : (n : ℕ) → replicate n 0 ≡ cut_of n []
cut-none n =
    same_tally (replicate n 0) (cut_of n []) (length-replicate {A = ℕ} n 0 ∙ sym (length-cut n []))
    (λ word lt. index-empty n word ∙ sym (index-cut n [] word (omega (arith, lt, length-replicate {A = ℕ} n 0))))

pub sum-none : (n : ℕ) → sum (cut_of n []) ≡ 0
sum-none n = ap sum (sym (cut-none n)) ∙ sum-empty n

-- one more ask is added at its word
pub cut-more : (n : ℕ) (asks : List Ask) (i : ℕ) (d : Ask) → AllByRecursion (λ ask. ask.cluster < n) asks → i < length asks →
    raised (cut_of n (take i asks)) (get_or asks i d).cluster (get_or asks i d).bytes ≡ cut_of n (take (i + 1) asks)
cut-more n asks i d known below =
    let ask : Ask = get_or asks i d in
    let old : List ℕ = cut_of n (take i asks) in
    let there : ask.cluster < length old =
    omega (arith, all_at (λ (ask : Ask). ask.cluster < n) asks i d known below, length-cut n (take i asks)) in
    let row : length (raised old ask.cluster ask.bytes) ≡ n =
    length-set old ask.cluster (slice_index old ask.cluster + ask.bytes) ∙ length-cut n (take i asks) in
    same_tally (raised old ask.cluster ask.bytes) (cut_of n (take (i + 1) asks)) (row ∙ sym (length-cut n (take (i + 1) asks)))
    (λ word lt. omega (
      arith,
      index-raised old ask.cluster ask.bytes word there,
      index-cut n (take i asks) word (omega (arith, lt, row)),
      index-cut n (take (i + 1) asks) word (omega (arith, lt, row)),
      ap (λ l. asked l word) (take_more asks i d below),
      asked-append (take i asks) (ask ∷ []) word,
      asked-one ask word,
    ))

-- the cut of a round has no more bytes than its asks
sum-one : (n : ℕ) (ask : Ask) → sum (cut_of n (ask ∷ [])) ≤ ask.bytes
sum-one n ask = elim (cases_lt ask.cluster n) [
  | inl there ↦ omega (
    arith,
    ap sum (cut-more n (ask ∷ []) 0 ask (there, tt) (omega arith)),
    sum-raised (cut_of n []) ask.cluster ask.bytes (omega (arith, there, length-cut n [])),
    sum-none n,
  )
  | inr past ↦
      let nothing : cut_of n (ask ∷ []) ≡ cut_of n [] =
      same_tally (cut_of n (ask ∷ [])) (cut_of n []) (length-cut n (ask ∷ []) ∙ sym (length-cut n []))
      (λ word lt.
      let here : word < n = omega (arith, lt, length-cut n (ask ∷ [])) in
      index-cut n (ask ∷ []) word here ∙ asked-else ask [] word (λ e. omega (arith, e, here, past)) ∙
      sym (index-cut n [] word here)) in
      omega (arith, ap sum nothing, sum-none n)
]

pub sum-cut : (n : ℕ) (asks : List Ask) → sum (cut_of n asks) ≤ bytes_of asks
sum-cut n [] = omega (arith, sum-none n)
sum-cut n (ask ∷ asks) =
    omega (
      arith,
      ap sum (cut-append n (ask ∷ []) asks),
      sum-added (cut_of n (ask ∷ [])) (cut_of n asks),
      sum-one n ask,
      sum-cut n asks,
      sum_by-cons (λ (ask : Ask). ask.bytes) ask asks,
    )
