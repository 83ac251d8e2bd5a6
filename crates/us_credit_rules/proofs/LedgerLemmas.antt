-- The ledger: a round more, a line more, and what it comes to.
use Rattle.std.proofs.Common.{◌≡◌, ℕ, zero, suc, ◌+◌, ◌-◌, ◌<◌, ◌≤◌, ◌==◌, Bool, true, false, List, [], ◌∷◌, ◌++◌, length, get_or, replicate, drop, cond, Option, Some, None, refl, sym, ap, ap₂, ◌∙◌, inl, inr, arith, eq-eqb, ne_eqb, subst}
use Rattle.std.specs.Prelude.{◌&&◌, if◌then◌else◌, not, nat_lt, nat_le, filter, find, slice_index, sum_by}
use Rattle.std.specs.List.{AllByRecursion, range_with_len}
use Rattle.std.proofs.lemmas.Bool.{cases_eq, cases_lt, and_from, and_left, and_right, eqb-true, false≢true, le-leb, le-ltb, lt-ltb, ltb-true}
use Rattle.std.proofs.lemmas.Bool.Decides.{nat_tests}
use Rattle.std.proofs.lemmas.List.{drop_more, get_or-replicate, length-replicate}
use Rattle.std.proofs.lemmas.List.FromFn.{get_or-map-range_with_len, take-map-range_with_len}
use Rattle.std.proofs.lemmas.List.Sums.{sum_by-cons}
use Rattle.us_flows.specs.Tables.{Tables}
use Rattle.us_flows.specs.Clusters.{Cluster, Turn, words_of}
use Rattle.us_requests.specs.declared.asks.Ask.{Ask}
use Rattle.us_requests.specs.Cuts.{asked, cut_of}
use Rattle.us_requests.specs.Traces.{TraceAsks, IsTrace, asks_in, cuts_in}
use Rattle.us_output.specs.declared.rows.Grant.{Grant}
use Rattle.us_output.specs.declared.rows.Row.{Row}
use Rattle.us_output.proofs.PartLemmas.{all_both, all_weaker}
use Rattle.us_lawful.specs.Runs.{requested_in, run_in}
use Rattle.us_lawful.specs.Credits.{asked_within, credited_in, credited_within, is_of, sum_holds}
use Rattle.us_lawful.proofs.ItemLemmas.{filter_same, sum_most, sum_zero}
use Rattle.us_lawful.proofs.SameLemmas.{sum_append, sum_filter, sum_map}
use Rattle.us_lawful.proofs.SumLemmas.{sum_both}
use Rattle.us_credit_rules.specs.declared.ledgers.Account.{Account}
use Rattle.us_credit_rules.specs.Shorts.{IsFirstRound, short_then}
use Rattle.us_credit_rules.specs.Seats.{AreNamed, is_number, names, word_in, word_of}
use Rattle.us_credit_rules.specs.declared.ledgers.Ledger.{Ledger}
use Rattle.us_credit_rules.specs.Ledgers.{AreAsked, AreCredited, IsCredited, TakesCredit, TakesLine, account_at, asked_in, credit_in, credit_within, holds, nothing}
use Rattle.us_credit_rules.proofs.CreditLemmas.{sum_pointwise}

-- What is asked for.

pub sum_next : (f : ℕ → ℕ) (from n : ℕ) →
    sum_by f (range_with_len from (suc n)) ≡ sum_by f (range_with_len from n) + f (from + n)
sum_next f from zero =
    let same : from + 0 ≡ from = omega arith in
    omega (arith, sum_by-cons f from [], ap f same)
sum_next f from (suc n) =
    let next : from + 1 + n ≡ from + suc n = omega arith in
    omega (
      arith,
      sum_by-cons f from (range_with_len (from + 1) (suc n)),
      sum_by-cons f from (range_with_len (from + 1) n),
      sum_next f (from + 1) n,
      ap f next,
    )

-- one round more
asked_next : (v : TraceAsks) (round word : ℕ) →
    asked_in v (round + 1) word ≡ asked_in v round word + asked (asks_in v round) word
asked_next v round word =
    let count : round + 1 ≡ suc round = omega arith in
    let same : 0 + round ≡ round = omega arith in
    ap (λ n. asked_in v n word) count ∙ sum_next (λ round. asked (asks_in v round) word) 0 round
    ∙ ap (λ n. asked_in v round word + asked (asks_in v n) word) same

-- a word asks for no more than all do
asked_most : (asks : List Ask) (word : ℕ) → asked asks word ≤ sum_by (λ ask. ask.bytes) asks
asked_most asks word =
    omega (
      arith,
      sum_filter (λ (ask : Ask). ask.bytes) (λ ask. ask.cluster == word) asks,
      sum_most (λ (ask : Ask). cond (ask.cluster == word) ask.bytes 0) (λ ask. ask.bytes) asks
          (λ ask. part (ask.cluster == word) ask.bytes),
    )
  where
    part : (b : Bool) (n : ℕ) → cond {A = ℕ} b n 0 ≤ n
    part true n = omega arith
    part false n = omega arith

asked_few : (v : TraceAsks) (rounds word : ℕ) → IsTrace v → asked_in v rounds word ≤ 1048560000000
asked_few v rounds word is =
    omega (
      arith,
      is.asked rounds,
      sum_most (λ round. asked (asks_in v round) word) (λ round. sum_by (λ ask. ask.bytes) (asks_in v round))
          (range_with_len 0 rounds) (λ round. asked_most (asks_in v round) word),
    )

-- by the asks from one on
asked_from : (asks : List Ask) (i word : ℕ) (d : Ask) → i < length asks →
    asked (drop i asks) word
    ≡ cond ((get_or asks i d).cluster == word) (get_or asks i d).bytes 0 + asked (drop (i + 1) asks) word
asked_from asks i word d inside =
    let own : Ask → ℕ = λ ask. cond (ask.cluster == word) ask.bytes 0 in
    let rest : List Ask = drop (i + 1) asks in
    omega (
      arith,
      sum_filter (λ (ask : Ask). ask.bytes) (λ ask. ask.cluster == word) (drop i asks),
      ap (sum_by own) (drop_more asks i d inside),
      sum_by-cons own (get_or asks i d) rest,
      sum_filter (λ (ask : Ask). ask.bytes) (λ ask. ask.cluster == word) rest,
    )

-- Sums of words, to which some asks are still to come.

abbrev pub AskedWith : List ℕ → List Ask → List ℕ → List Ask → Type 0
AskedWith before asks now rest =
    (word : ℕ) → word < length before →
    slice_index now word + asked rest word ≡ slice_index before word + asked asks word

pub one_asked : (before now after : List ℕ) (asks : List Ask) (i : ℕ) (d : Ask) → i < length asks →
    length now ≡ length before → AskedWith before asks now (drop i asks) →
    ((word : ℕ) → word < length now → slice_index after word
    ≡ slice_index now word + (if (get_or asks i d).cluster == word then (get_or asks i d).bytes else 0)) →
    AskedWith before asks after (drop (i + 1) asks)
one_asked before now after asks i d inside long are one word within =
    omega (arith, are word within, one word (omega (arith, within, long)), asked_from asks i word d inside)

pub ask_fits : (before now : List ℕ) (asks : List Ask) (i : ℕ) (d : Ask) → i < length asks →
    length now ≡ length before →
    ((word : ℕ) → word < length before → slice_index before word + asked asks word < 18446744073709551616) →
    AskedWith before asks now (drop i asks) → (get_or asks i d).cluster < length now →
    slice_index now (get_or asks i d).cluster + (get_or asks i d).bytes < 18446744073709551616
ask_fits before now asks i d inside long room are known =
    let ask : Ask = get_or asks i d in
    let within : ask.cluster < length before = omega (arith, known, long) in
    omega (
      arith,
      are ask.cluster within,
      room ask.cluster within,
      asked_from asks i ask.cluster d inside,
      ap (λ b. cond {A = ℕ} b ask.bytes 0) (eq-eqb ask.cluster ask.cluster refl),
    )

-- with what rounds ask for
pub round_asked : (v : TraceAsks) (round : ℕ) (now after : List ℕ) → round < v.rounds → length after ≡ length now →
    AreAsked v round now → ((word : ℕ) → word < length now →
    slice_index after word ≡ slice_index now word + asked (asks_in v round) word) → AreAsked v (round + 1) after
round_asked v round now after within long are more = record {
  inside = omega (arith, within);
  asked = λ word inside.
      let here : word < length now = omega (arith, inside, long) in
      more word here ∙ ap (λ n. n + asked (asks_in v round) word) (are.asked word here) ∙ sym (asked_next v round word);
}

pub round_fits : (v : TraceAsks) (round word : ℕ) (now : List ℕ) → IsTrace v → AreAsked v round now → word < length now →
    slice_index now word + asked (asks_in v round) word < 18446744073709551616
round_fits v round word now trace are inside =
    omega (arith, are.asked word inside, asked_next v round word, asked_few v (round + 1) word trace)

-- The cuts of rounds ask for the same.

pub cut_at : (words number : ℕ) (asks : List Ask) → number < words → slice_index (cut_of words asks) number ≡ asked asks number
unfolding cut_of
cut_at words number asks inside =
    get_or-map-range_with_len (asked asks) 0 words number number 0 inside (omega arith)

asked_is : (t : Tables) (v : TraceAsks) (rounds word : ℕ) → word < length (words_of t) → rounds ≤ v.rounds →
    asked_within (run_in t v) rounds word ≡ asked_in v rounds word
unfolding cuts_in
asked_is t v rounds word known early =
    let cut : ℕ → List ℕ = λ round. cut_of (length (words_of t)) (asks_in v round) in
    ap (sum_by (λ (c : List ℕ). slice_index c word)) (take-map-range_with_len cut 0 v.rounds rounds early)
    ∙ sum_map (λ (c : List ℕ). slice_index c word) cut (range_with_len 0 rounds)
    ∙ sum_pointwise (λ round. slice_index (cut round) word) (λ round. asked (asks_in v round) word)
    (λ round. cut_at (length (words_of t)) word (asks_in v round) known) (range_with_len 0 rounds)

-- What is credited.

-- by the lines of a cluster in rounds that pass a test
abbrev credit_by : (ℕ → Bool) → List Grant → Cluster → ℕ
credit_by test grants c = sum_by (λ g. g.credit) (filter (λ g. is_of c g && test g.round) grants)

abbrev pub AreUpTo : ℕ → List Grant → Type 0
AreUpTo latest grants = AllByRecursion (λ g. g.round ≤ latest) grants

-- by one line more
pushed : (test : ℕ → Bool) (grants : List Grant) (g : Grant) (c : Cluster) →
    credit_by test (grants ++ g ∷ []) c ≡ credit_by test grants c + cond (is_of c g && test g.round) g.credit 0
pushed test grants g c =
    let f : Grant → ℕ = λ g. cond (is_of c g && test g.round) g.credit 0 in
    omega (
      arith,
      sum_filter (λ (g : Grant). g.credit) (λ g. is_of c g && test g.round) (grants ++ g ∷ []),
      sum_filter (λ (g : Grant). g.credit) (λ g. is_of c g && test g.round) grants,
      sum_append f grants (g ∷ []),
      sum_by-cons f g [],
    )

-- tests that agree on rounds of lines
agreed : (p q : ℕ → Bool) (grants : List Grant) (c : Cluster) (latest : ℕ) → AreUpTo latest grants →
    ((n : ℕ) → n ≤ latest → p n ≡ q n) → credit_by p grants c ≡ credit_by q grants c
agreed p q grants c latest all same =
    ap (sum_by (λ (g : Grant). g.credit))
    (filter_same (λ (g : Grant). is_of c g && p g.round) (λ g. is_of c g && q g.round) grants
    (all_weaker (λ (g : Grant). g.round ≤ latest) (λ g. (is_of c g && p g.round) ≡ (is_of c g && q g.round))
    (λ g early. ap (λ b. is_of c g && b) (same g.round early)) grants all))

-- nothing in later rounds,
none_later : (grants : List Grant) (c : Cluster) (latest round : ℕ) → AreUpTo latest grants → latest < round →
    credit_in grants round c ≡ 0
none_later grants c latest round all late =
    agreed (λ n. n == round) (λ n. false) grants c latest all
    (λ n early. ne_eqb n round (λ same. omega (arith, same, early, late)))
    ∙ sum_filter (λ (g : Grant). g.credit) (λ g. is_of c g && false) grants
    ∙ sum_zero (λ (g : Grant). cond (is_of c g && false) g.credit 0) grants
    (λ g. ap (λ b. cond {A = ℕ} b g.credit 0) (and_right (is_of c g) false refl))

-- so that all is what is credited before a round and in it
all_credit : (grants : List Grant) (c : Cluster) (round rounds : ℕ) → AreUpTo round grants → round < rounds →
    credit_within grants rounds c ≡ credit_within grants round c + credit_in grants round c
all_credit grants c round rounds all inside =
    agreed (λ n. nat_lt n rounds) (λ n. nat_lt n (round + 1)) grants c round all
    (λ n early. lt-ltb n rounds (omega (arith, early, inside)) ∙ sym (lt-ltb n (round + 1) (omega (arith, early))))
    ∙ sum_filter (λ (g : Grant). g.credit) (λ g. is_of c g && nat_lt g.round (round + 1)) grants
    ∙ sum_pointwise (λ (g : Grant). cond (is_of c g && nat_lt g.round (round + 1)) g.credit 0) (λ g. before g + now g)
    (λ g. parts (is_of c g) g.round g.credit) grants
    ∙ sum_both before now grants
    ∙ ap₂ (λ a b. a + b)
    (sym (sum_filter (λ (g : Grant). g.credit) (λ g. is_of c g && nat_lt g.round round) grants))
    (sym (sum_filter (λ (g : Grant). g.credit) (λ g. is_of c g && (g.round == round)) grants))
  where
    before : Grant → ℕ
    before g = cond (is_of c g && nat_lt g.round round) g.credit 0

    now : Grant → ℕ
    now g = cond (is_of c g && (g.round == round)) g.credit 0

    parts : (own : Bool) (n bytes : ℕ) →
        cond (own && nat_lt n (round + 1)) bytes 0
        ≡ cond (own && nat_lt n round) bytes 0 + cond (own && (n == round)) bytes 0
    parts false n bytes = omega arith
    parts true n bytes = grind (arith, nat_tests)

-- First rounds.

-- of tests that agree
pub same_first : (rounds : ℕ) (p q : ℕ → Bool) (answer : Option ℕ) → ((round : ℕ) → round < rounds → p round ≡ q round) →
    IsFirstRound rounds p answer → IsFirstRound rounds q answer
same_first rounds p q None same first = λ round within. sym (same round within) ∙ first round within
same_first rounds p q (Some at) same first = (
  first.0,
  sym (same at first.0) ∙ first.1,
  λ round early. sym (same round (omega (arith, early, first.0))) ∙ first.2 round early,
)

-- where a test may fail now in a round behind which it holds
pub first_next : (rounds round : ℕ) (p q : ℕ → Bool) (over : Bool) (answer : Option ℕ) → round < rounds →
    ((i : ℕ) → i < round → q i ≡ p i) → q round ≡ (p round && not over) →
    ((i : ℕ) → round < i → i < rounds → (p i ≡ true) × (q i ≡ true)) →
    IsFirstRound rounds p answer → IsFirstRound rounds q (short_then round over answer)
first_next rounds round p q over (Some at) inside early here late first = elim (cases_lt at round) [
  | inl before ↦ (
    first.0,
    early at before ∙ first.1,
    λ i sooner. early i (omega (arith, sooner, before)) ∙ first.2 i sooner,
  )
  | inr behind ↦ elim (cases_eq at round) [
    | inl same ↦ (
      first.0,
      ap q same ∙ here ∙ and_left (p round) (not over) (ap p (sym same) ∙ first.1),
      λ i sooner. early i (omega (arith, sooner, same)) ∙ first.2 i sooner,
    )
    | inr apart ↦
        absurd (false≢true (sym first.1 ∙ (late at (omega (arith, behind, apart)) first.0).0))
  ]
]
first_next rounds round p q true None inside early here late first = (
  inside,
  here ∙ and_right (p round) false refl,
  λ i sooner. early i sooner ∙ first i (omega (arith, sooner, inside)),
)
first_next rounds round p q false None inside early here late first = λ i within. elim (cases_lt i round) [
  | inl before ↦ early i before ∙ first i within
  | inr behind ↦ elim (cases_eq i round) [
    | inl same ↦ ap q same ∙ here ∙ and_from (p round) true (first round inside) refl
    | inr apart ↦ (late i (omega (arith, behind, apart)) within).1
  ]
]

-- One cluster, and one line more, of no earlier round.

module _ (v : TraceAsks) (grants : List Grant) (turn : Turn) (g : Grant) (a : Account)
    (is : IsCredited v grants turn a) where
  abbrev more : List Grant
  more = grants ++ g ∷ []

  -- a line of another cluster, or of no round of the run
  kept_one : (is_of turn.cluster g && nat_lt g.round v.rounds) ≡ false → IsCredited v more turn a
  kept_one out = record {
    left = λ all few. is.left all few ∙ ap (λ n. all - n) (sym (within v.rounds (omega arith)));
    short = same_first v.rounds (holds v grants turn) (holds v more turn) a.short
        (λ round inside. ap₂ (λ credit before. nat_le credit (asked_in v (round + 1) turn.number - before))
        (sym (in_same round inside)) (sym (within round (omega (arith, inside))))) is.short;
  }
    where
      out_of : (own early test : Bool) → (own && early) ≡ false → (test ≡ true → early ≡ true) → (own && test) ≡ false
      out_of false early test none there = refl
      out_of true early true none there = absurd (false≢true (sym none ∙ there refl))
      out_of true early false none there = refl

      same : (test : ℕ → Bool) → (test g.round ≡ true → g.round < v.rounds) →
          credit_by test more turn.cluster ≡ credit_by test grants turn.cluster
      same test there =
          omega (
            arith,
            pushed test grants g turn.cluster,
            ap (λ b. cond {A = ℕ} b g.credit 0) (out_of (is_of turn.cluster g) (nat_lt g.round v.rounds) (test g.round) out
                (λ is. lt-ltb g.round v.rounds (there is))),
          )

      in_same : (round : ℕ) → round < v.rounds → credit_in more round turn.cluster ≡ credit_in grants round turn.cluster
      in_same round inside = same (λ n. n == round) (λ is. omega (arith, eqb-true g.round round is, inside))

      within : (rounds : ℕ) → rounds ≤ v.rounds →
          credit_within more rounds turn.cluster ≡ credit_within grants rounds turn.cluster
      within rounds most = same (λ n. nat_lt n rounds) (λ is. omega (arith, ltb-true g.round rounds is, most))

  -- and its own
  own_one : (b : Account) → AreUpTo g.round grants → is_of turn.cluster g ≡ true → g.round < v.rounds →
      asked_in v (g.round + 1) turn.number < 18446744073709551616 →
      TakesCredit (asked_in v (g.round + 1) turn.number) g.round g.credit a b → IsCredited v more turn b
  own_one b upto own inside few takes = record {
    left = λ all fits.
        omega (
          arith,
          takes.left all fits,
          is.left all fits,
          more_credit (λ n. nat_lt n v.rounds) true (lt-ltb g.round v.rounds inside),
        );
    short = subst (IsFirstRound v.rounds (holds v more turn)) (sym takes.short)
        (first_next v.rounds g.round (holds v grants turn) (holds v more turn) _ a.short inside early here late is.short);
  }
    where
      c : Cluster
      c = turn.cluster

      asks : ℕ
      asks = asked_in v (g.round + 1) turn.number

      more_credit : (test : ℕ → Bool) (b : Bool) → test g.round ≡ b →
          credit_by test more c ≡ credit_by test grants c + cond b g.credit 0
      more_credit test b is =
          omega (arith, pushed test grants g c, ap₂ (λ o t. cond {A = ℕ} (o && t) g.credit 0) own is)

      in_other : (round : ℕ) → (g.round ≡ round → ⊥) → credit_in more round c ≡ credit_in grants round c
      in_other round other = omega (arith, more_credit (λ n. n == round) false (ne_eqb g.round round other))

      within_early : (rounds : ℕ) → rounds ≤ g.round → credit_within more rounds c ≡ credit_within grants rounds c
      within_early rounds sooner = omega (arith, more_credit (λ n. nat_lt n rounds) false (le-ltb g.round rounds sooner))

      in_own : credit_in more g.round c ≡ credit_in grants g.round c + g.credit
      in_own = more_credit (λ n. n == g.round) true (eq-eqb g.round g.round refl)

      early : (round : ℕ) → round < g.round → holds v more turn round ≡ holds v grants turn round
      early round sooner =
          ap₂ (λ credit before. nat_le credit (asked_in v (round + 1) turn.number - before))
          (in_other round (λ same. omega (arith, same, sooner))) (within_early round (omega (arith, sooner)))

      late : (round : ℕ) → g.round < round → round < v.rounds →
          (holds v grants turn round ≡ true) × (holds v more turn round ≡ true)
      late round behind within =
          let none : credit_in grants round c ≡ 0 = none_later grants c g.round round upto behind in (
            le-leb (credit_in grants round c) (asked_in v (round + 1) turn.number - credit_within grants round c)
                (omega (arith, none)),
            le-leb (credit_in more round c) (asked_in v (round + 1) turn.number - credit_within more round c)
                (omega (arith, none, in_other round (λ same. omega (arith, same, behind)))),
          )

      fits : (asks within now credit left : ℕ) → left ≡ asks - (within + now) →
          nat_le (now + credit) (asks - within) ≡ (nat_le now (asks - within) && not (nat_lt left credit))
      fits asks within now credit left is = grind (arith, nat_tests)

      here : holds v more turn g.round ≡ (holds v grants turn g.round && not (nat_lt (asks - a.credited) g.credit))
      here =
          ap₂ (λ credit before. nat_le credit (asks - before)) in_own (within_early g.round (omega arith))
          ∙ fits asks (credit_within grants g.round c) (credit_in grants g.round c) g.credit (asks - a.credited)
          (is.left asks few ∙ ap (λ n. asks - n) (all_credit grants c g.round v.rounds upto inside))

-- All clusters.

module _ (v : TraceAsks) (turns : List Turn) (g : Grant) (accounts after : List Account)
    (named : AreNamed (length accounts) turns) where
  each_turn : (P Q : Turn → Type 0) → ((turn : Turn) → turn.number < length accounts →
      is_of turn.cluster g ≡ is_number turn.number (word_of g.id g.i turns) → P turn → Q turn) →
      AllByRecursion P turns → AllByRecursion Q turns
  each_turn P Q each all =
      all_weaker
      (λ turn. (turn.number < length accounts)
      × ((names g.id g.i turn ≡ is_number turn.number (word_of g.id g.i turns)) × P turn))
      Q (λ turn of. each turn of.0 of.1.0 of.1.1) turns
      (all_both (λ turn. turn.number < length accounts)
      (λ turn. (names g.id g.i turn ≡ is_number turn.number (word_of g.id g.i turns)) × P turn) turns named.inside
      (all_both (λ turn. names g.id g.i turn ≡ is_number turn.number (word_of g.id g.i turns)) P turns
      (named.named g.id g.i) all))

-- The ledger.

-- before all rounds
pub start_asked : (v : TraceAsks) (words : ℕ) → AreAsked v 0 (replicate words 0)
start_asked v words = record {
  inside = omega arith;
  asked = λ word inside.
      get_or-replicate words word 0 0 (omega (arith, inside, length-replicate {A = ℕ} words 0));
}

pub start_credited : (v : TraceAsks) (turns : List Turn) (words : ℕ) → AllByRecursion (λ turn. turn.number < words) turns →
    AreCredited v turns [] (replicate words nothing)
start_credited v turns words known =
    all_weaker (λ turn. turn.number < words)
    (λ turn. IsCredited v [] turn (account_at (replicate words nothing) turn.number))
    (λ turn inside. rw (get_or-replicate words turn.number nothing nothing inside) (record {
      left = λ all few. refl;
      short = λ round within. le-leb 0 (asked_in v (round + 1) turn.number - 0) (omega arith);
    })) turns known

-- One line more.

module _ (v : TraceAsks) (turns : List Turn) (g : Grant) (before after : Ledger)
    (named : AreNamed (length before.accounts.items) turns) (ordered : after.begun ≤ g.round + 1)
    (words : length after.asked.items ≡ length before.asked.items) (asked : AreAsked v after.begun after.asked.items) where
  abbrev old : List Account
  old = before.accounts.items

  abbrev now : List Account
  now = after.accounts.items

  -- that credits no cluster,
  pub kept_taken : ((turn : Turn) → is_of turn.cluster g ≡ is_number turn.number (word_of g.id g.i turns) →
      (is_of turn.cluster g && nat_lt g.round v.rounds) ≡ false) → now ≡ old → TakesLine v turns g before after
  kept_taken out same = record {
    ordered = ordered;
    words = words;
    long = ap length same;
    asked = asked;
    credited = λ grants upto credited.
        each_turn v turns g old old named (λ turn. IsCredited v grants turn (account_at old turn.number))
        (λ turn. IsCredited v (grants ++ g ∷ []) turn (account_at now turn.number))
        (λ turn known own is.
        subst (λ these. IsCredited v (grants ++ g ∷ []) turn (account_at these turn.number)) (sym same)
        (kept_one v grants turn g (account_at old turn.number) is (out turn own))) credited;
  }

  -- or this one
  pub named_taken : (u : Turn) → find (names g.id g.i) turns ≡ Some u → g.round < v.rounds → IsTrace v →
      length now ≡ length old →
      TakesCredit (asked_in v (g.round + 1) u.number) g.round g.credit (account_at old u.number) (account_at now u.number) →
      ((other : ℕ) → (other ≡ u.number → ⊥) → account_at now other ≡ account_at old other) → TakesLine v turns g before after
  named_taken u found inside trace long takes others = record {
    ordered = ordered;
    words = words;
    long = long;
    asked = asked;
    credited = λ grants upto credited.
        each_turn v turns g old old named (λ turn. IsCredited v grants turn (account_at old turn.number))
        (λ turn. IsCredited v (grants ++ g ∷ []) turn (account_at now turn.number))
        (λ turn known own is.
        let it : is_of turn.cluster g ≡ (u.number == turn.number) =
        own ∙ ap (λ found. is_number turn.number (word_in found)) found in
        elim (cases_eq turn.number u.number) [
          | inl same ↦
              own_one v grants turn g (account_at old turn.number) is (account_at now turn.number) upto
              (it ∙ eq-eqb u.number turn.number (sym same)) inside
              (omega (arith, asked_few v (g.round + 1) turn.number trace))
              (subst (λ n. TakesCredit (asked_in v (g.round + 1) n) g.round g.credit (account_at old n) (account_at now n))
              (sym same) takes)
          | inr other ↦
              subst (IsCredited v (grants ++ g ∷ []) turn) (sym (others turn.number other))
              (kept_one v grants turn g (account_at old turn.number) is
              (and_left (is_of turn.cluster g) (nat_lt g.round v.rounds)
              (it ∙ ne_eqb u.number turn.number (λ same. other (sym same)))))
        ]) credited;
  }

-- Behind all lines.

module _ (t : Tables) (v : TraceAsks) (lines : List Row) (turn : Turn) (a : Account)
    (known : turn.number < length (words_of t)) (is : IsCredited v (requested_in lines) turn a) where
  -- what is left of all that is asked
  pub left_is : IsTrace v →
      asked_in v v.rounds turn.number - a.credited
      ≡ asked_within (run_in t v) v.rounds turn.number - credited_within lines v.rounds turn.cluster
  left_is trace =
      is.left (asked_in v v.rounds turn.number) (omega (arith, asked_few v v.rounds turn.number trace))
      ∙ ap (λ all. all - credited_within lines v.rounds turn.cluster)
      (sym (asked_is t v v.rounds turn.number known (omega arith)))

  -- and the first round that is credited more
  pub short_is : IsFirstRound v.rounds (λ round. sum_holds (run_in t v) lines round turn) a.short
  short_is =
      same_first v.rounds (holds v (requested_in lines) turn) (λ round. sum_holds (run_in t v) lines round turn) a.short
      (λ round within.
      ap (λ asked. nat_le (credited_in lines round turn.cluster) (asked - credited_within lines round turn.cluster))
      (sym (asked_is t v (round + 1) turn.number known (omega (arith, within))))) is.short
