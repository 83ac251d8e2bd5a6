-- A replay's steps: to take a word that holds nothing changes nothing, and with all words taken they are complete.
use Rattle.std.proofs.Common.{◌≡◌, ℕ, zero, suc, ◌+◌, ◌<◌, ◌≤◌, ◌==◌, Bool, true, false, not, ◌&&◌, ◌||◌, if◌then◌else◌, List, [], ◌∷◌, ◌++◌, length, map, filter, replicate, get_or, slice_index, slice_set, Some, refl, ap, sym, subst, ◌∙◌, inl, inr, eq-eqb, ne_eqb, arith}
use Rattle.std.specs.List.{AllByRecursion, range_with_len}
use Rattle.std.proofs.lemmas.Bool.{cases_Bool, cases_eq}
use Rattle.std.proofs.lemmas.List.{length-replicate}
use Rattle.us_requests.specs.declared.asks.Ask.{Ask}
use Rattle.us_requests.specs.Cuts as requests
use Rattle.us_requests.specs.Cuts.{asked}
use Rattle.us_output.proofs.PartLemmas.{all_append, all_filtered, all_mapped, all_weaker}
use Rattle.us_steps.specs.declared.steps.Step.{Step}
use Rattle.us_steps.specs.declared.steps.Step.TheVariants as step
use Rattle.us_steps.specs.Steps.{adds, takes, opens, builds, takes_one, opens_one, behind, added_by, IsThere, IsComplete, left_at, cut_of, left_of}
use Rattle.us_steps.specs.Machines.{Seats, Machine, any_open, having_taken, after_step}
use Rattle.us_steps.specs.Replaying.{TakingNothing, ReplaysAreComplete, firsts, is_among, other_words, replay_steps, takes_of, words_swapped}
use Rattle.us_steps.proofs.CountLemmas.{count, total, totalled, IsCounted, complete-counted, counted-complete}
use Rattle.us_steps.proofs.PlayLemmas.{conserved, cut-long, mapped-at, zeros}

-- Taking nothing.

-- what a list has at a place, put there, changes nothing
set-own : (xs : List ℕ) (i n : ℕ) → slice_index xs i ≡ n → slice_set xs i n ≡ xs
set-own [] i n is = refl
set-own (x ∷ xs) zero n is = ap (λ y. y ∷ xs) (sym is)
set-own (x ∷ xs) (suc i) n is = ap (λ ys. x ∷ ys) (set-own xs i n is)

none-more : (b : Bool) (n : ℕ) → (if b then n + 0 else n) ≡ n
none-more true n = omega arith
none-more false n = refl

-- a seat that takes nothing took what it took before
none-taken : (seats : Seats) (by word : ℕ) → having_taken seats by word 0 ≡ seats
none-taken seats by word =
    let same : (having_taken seats by word 0).took ≡ seats.took =
    λ i seat q. none-more ((seat == by) && (q == word)) (seats.took seat q) i in
    ap (λ took. record { added = seats.added; took = took }) same

machine_of : Machine → List ℕ → List ℕ → Seats → ℕ → Machine
machine_of m words cut seats word = record m { words = words; cut = cut; seats = seats; taken = slice_set m.taken word true }

pub taking_nothing : TakingNothing
unfolding after_step machine_of
taking_nothing s rows m word by closed fresh none =
    let left : slice_set m.words word 0 ≡ m.words = set-own m.words word 0 none in
    let more : slice_index m.cut word ≡ slice_index m.cut word + slice_index m.words word = omega (arith, none) in
    let cut : slice_set m.cut word (slice_index m.cut word + slice_index m.words word) ≡ m.cut =
    set-own m.cut word (slice_index m.cut word + slice_index m.words word) more in
    let seats : having_taken m.seats by word (slice_index m.words word) ≡ m.seats =
    ap (having_taken m.seats by word) none ∙ none-taken m.seats by word in
    let refused : (any_open m.channels || get_or m.taken word true) ≡ false = rw (closed, fresh) refl in
    rw refused
    (ap (λ words. Some (machine_of m words (slice_set m.cut word (slice_index m.cut word + slice_index m.words word))
    (having_taken m.seats by word (slice_index m.words word)) word)) left
    ∙ ap (λ c. Some (machine_of m m.words c (having_taken m.seats by word (slice_index m.words word)) word)) cut
    ∙ ap (λ (seats : Seats). Some (machine_of m m.words m.cut seats word)) seats)

-- How often a list's items pass.

count-append : {X : Type 0} (p : X → Bool) (xs ys : List X) → count p (xs ++ ys) ≡ count p xs + count p ys
count-append p [] ys = omega arith
count-append p (x ∷ xs) ys = elim (cases_Bool (p x)) [
  | inl passes ↦ rw passes (omega (arith, count-append p xs ys))
  | inr fails ↦ rw fails (count-append p xs ys)
]

-- behind what doesn't pass stands what stands behind the rest
behind-past : {X : Type 0} (p : X → Bool) (xs ys : List X) → count p xs ≡ 0 → behind p (xs ++ ys) ≡ behind p ys
behind-past p [] ys none = refl
behind-past p (x ∷ xs) ys none = elim (cases_Bool (p x)) [
  | inl passes ↦ let one : suc (count p xs) ≡ 0 = rw passes at none in absurd (omega (arith, one))
  | inr fails ↦ let rest : count p xs ≡ 0 = rw fails at none in rw fails (behind-past p xs ys rest)
]

-- Steps of rows alone, and of channels alone.

rows-alone : (n : ℕ) (p : Step → Bool) (steps : List Step) → ((row by : ℕ) → p (step.Add row by) ≡ false) →
    AllByRecursion (IsThere n 0 0) steps → count p steps ≡ 0
rows-alone n p [] fails there = refl
rows-alone n p (step.Add row by ∷ steps) fails there = rw (fails row by) (rows-alone n p steps fails there.1)
rows-alone n p (step.Take word by ∷ steps) fails there = absurd (omega (arith, there.0))
rows-alone n p (step.Open channel ∷ steps) fails there = absurd (omega (arith, there.0))
rows-alone n p (step.Built channel ∷ steps) fails there = absurd (omega (arith, there.0))

channels-alone : (n : ℕ) (p : Step → Bool) (steps : List Step) → ((channel : ℕ) → p (step.Open channel) ≡ false) →
    ((channel : ℕ) → p (step.Built channel) ≡ false) → AllByRecursion (IsThere 0 0 n) steps → count p steps ≡ 0
channels-alone n p [] opening building there = refl
channels-alone n p (step.Add row by ∷ steps) opening building there = absurd (omega (arith, there.0))
channels-alone n p (step.Take word by ∷ steps) opening building there = absurd (omega (arith, there.0))
channels-alone n p (step.Open channel ∷ steps) opening building there =
    rw (opening channel) (channels-alone n p steps opening building there.1)
channels-alone n p (step.Built channel ∷ steps) opening building there =
    rw (building channel) (channels-alone n p steps opening building there.1)

-- they are there among more
row-there : (rows words channels : ℕ) (s : Step) → IsThere rows 0 0 s → IsThere rows words channels s
row-there rows words channels (step.Add row by) is = is
row-there rows words channels (step.Take word by) is = absurd (omega (arith, is))
row-there rows words channels (step.Open channel) is = absurd (omega (arith, is))
row-there rows words channels (step.Built channel) is = absurd (omega (arith, is))

channel-there : (rows words channels : ℕ) (s : Step) → IsThere 0 0 channels s → IsThere rows words channels s
channel-there rows words channels (step.Add row by) is = absurd (omega (arith, is))
channel-there rows words channels (step.Take word by) is = absurd (omega (arith, is))
channel-there rows words channels (step.Open channel) is = is
channel-there rows words channels (step.Built channel) is = is

-- Takes.

takes-alone : (p : Step → Bool) (by : ℕ) (qs : List ℕ) → ((word : ℕ) → p (step.Take word by) ≡ false) →
    count p (takes_of by qs) ≡ 0
takes-alone p by [] fails = refl
takes-alone p by (q ∷ qs) fails = rw (fails q) (takes-alone p by qs fails)

takes-count : (by : ℕ) (qs : List ℕ) (q : ℕ) → count (takes q) (takes_of by qs) ≡ count (λ r. r == q) qs
takes-count by [] q = refl
takes-count by (r ∷ qs) q = ap (λ n. if r == q then suc n else n) (takes-count by qs q)

-- Each word once.

-- without a number it stands nowhere
count-kept_out : (q : ℕ) (qs : List ℕ) → count (λ r. r == q) (filter (λ r. not (r == q)) qs) ≡ 0
count-kept_out q [] = refl
count-kept_out q (r ∷ qs) = elim (cases_Bool (r == q)) [
  | inl same ↦ rw same (count-kept_out q qs)
  | inr other ↦ rw (other, other) (count-kept_out q qs)
]

-- and others as often as before
count-kept : (q r : ℕ) (qs : List ℕ) → (q ≡ r → ⊥) →
    count (λ x. x == r) (filter (λ x. not (x == q)) qs) ≡ count (λ x. x == r) qs
count-kept q r [] apart = refl
count-kept q r (x ∷ qs) apart = elim (cases_eq x q) [
  | inl same ↦
      let out : (x == r) ≡ false = ne_eqb x r (λ e. apart (sym same ∙ e)) in
      rw (eq-eqb x q same, out) (count-kept q r qs apart)
  | inr other ↦ rw (ne_eqb x q other) (ap (λ n. if x == r then suc n else n) (count-kept q r qs apart))
]

abbrev one_if : Bool → ℕ
one_if b = if b then 1 else 0

count-firsts : (q : ℕ) (qs : List ℕ) → count (λ r. r == q) (firsts qs) ≡ one_if (is_among qs q)
count-firsts q [] = refl
count-firsts q (x ∷ qs) = elim (cases_eq x q) [
  | inl same ↦
      let none : count (λ r. r == q) (filter (λ r. not (r == x)) (firsts qs)) ≡ 0 =
      ap (λ y. count (λ r. r == q) (filter (λ r. not (r == y)) (firsts qs))) same ∙ count-kept_out q (firsts qs) in
      rw (eq-eqb x q same) (ap suc none)
  | inr other ↦ rw (ne_eqb x q other) (count-kept x q (firsts qs) other ∙ count-firsts q qs)
]

count-past : (a n q : ℕ) → q < a → count (λ r. r == q) (range_with_len a n) ≡ 0
count-past a zero q low = refl
count-past a (suc n) q low =
    rw (ne_eqb a q (λ e. omega (arith, e, low))) (count-past (a + 1) n q (omega (arith, low)))

count-range : (a n q : ℕ) → a ≤ q → q < a + n → count (λ r. r == q) (range_with_len a n) ≡ 1
count-range a zero q low high = absurd (omega (arith, low, high))
count-range a (suc n) q low high = elim (cases_eq a q) [
  | inl same ↦ rw (eq-eqb a q same) (ap suc (count-past (a + 1) n q (omega (arith, same))))
  | inr other ↦ rw (ne_eqb a q other) (count-range (a + 1) n q (omega (arith, low, other)) (omega (arith, high)))
]

count-filter : (f : ℕ → Bool) (q : ℕ) (qs : List ℕ) →
    count (λ r. r == q) (filter f qs) ≡ (if f q then count (λ r. r == q) qs else 0)
count-filter f q [] = by (f q)
  where
    by : (b : Bool) → zero ≡ (if b then zero else zero)
    by true = refl
    by false = refl
count-filter f q (x ∷ qs) = elim (cases_eq x q) [
  | inl same ↦ elim (cases_Bool (f q)) [
    | inl passes ↦
        let rest : count (λ r. r == q) (filter f qs) ≡ count (λ r. r == q) qs = rw passes at (count-filter f q qs) in
        rw (ap f same ∙ passes, passes, eq-eqb x q same) (ap suc rest)
    | inr fails ↦
        let rest : count (λ r. r == q) (filter f qs) ≡ 0 = rw fails at (count-filter f q qs) in
        rw (ap f same ∙ fails, fails) rest
  ]
  | inr other ↦ elim (cases_Bool (f x)) [
    | inl passes ↦ rw (passes, ne_eqb x q other) (count-filter f q qs)
    | inr fails ↦ rw (fails, ne_eqb x q other) (count-filter f q qs)
  ]
]

each-once : (words : ℕ) (rows : List Ask) (q : ℕ) → q < words →
    count (λ r. r == q) (firsts (words_swapped rows)) + count (λ r. r == q) (other_words words rows) ≡ 1
each-once words rows q below =
    let named : count (λ r. r == q) (firsts (words_swapped rows)) ≡ one_if (is_among (words_swapped rows) q) =
    count-firsts q (words_swapped rows) in
    let others = count-filter (λ r. not (is_among (words_swapped rows) r)) q (range_with_len 0 words) in
    let all : count (λ r. r == q) (range_with_len 0 words) ≡ 1 =
    count-range 0 words q (omega arith) (omega (arith, below)) in
    elim (cases_Bool (is_among (words_swapped rows) q)) [
      | inl is ↦
          let one : count (λ r. r == q) (firsts (words_swapped rows)) ≡ 1 = rw is at named in
          let none : count (λ r. r == q) (other_words words rows) ≡ 0 = rw is at others in
          omega (arith, one, none)
      | inr not ↦
          let none : count (λ r. r == q) (firsts (words_swapped rows)) ≡ 0 = rw not at named in
          let one : count (λ r. r == q) (other_words words rows) ≡ count (λ r. r == q) (range_with_len 0 words) =
          rw not at others in
          omega (arith, none, one, all)
    ]

firsts-all : (P : ℕ → Type 0) (qs : List ℕ) → AllByRecursion P qs → AllByRecursion P (firsts qs)
firsts-all P [] all = tt
firsts-all P (q ∷ qs) all = (all.0, all_filtered P (λ r. not (r == q)) (firsts qs) (firsts-all P qs all.1))

range-below : (a n most : ℕ) → a + n ≤ most → AllByRecursion (λ q. q < most) (range_with_len a n)
range-below a zero most within = tt
range-below a (suc n) most within = (omega (arith, within), range-below (a + 1) n most (omega (arith, within)))

-- Behind the rows no step adds anything.

abbrev IsNoAdd : Step → Type 0
IsNoAdd (step.Add row by) = ⊥
IsNoAdd (step.Take word by) = Unit {0}
IsNoAdd (step.Open channel) = Unit {0}
IsNoAdd (step.Built channel) = Unit {0}

nothing-added : (rows : List Ask) (q : ℕ) (steps : List Step) → AllByRecursion IsNoAdd steps → total (added_by rows q) steps ≡ 0
nothing-added rows q [] all = refl
nothing-added rows q (step.Add row by ∷ steps) all = absurd all.0
nothing-added rows q (step.Take word by ∷ steps) all = omega (arith, nothing-added rows q steps all.1)
nothing-added rows q (step.Open channel ∷ steps) all = omega (arith, nothing-added rows q steps all.1)
nothing-added rows q (step.Built channel ∷ steps) all = omega (arith, nothing-added rows q steps all.1)

nothing-behind : (rows : List Ask) (q : ℕ) (p : Step → Bool) (steps : List Step) → AllByRecursion IsNoAdd steps →
    total (added_by rows q) (behind p steps) ≡ 0
nothing-behind rows q p [] all = refl
nothing-behind rows q p (one ∷ steps) all = elim (cases_Bool (p one)) [
  | inl passes ↦ rw passes (nothing-added rows q steps all.1)
  | inr fails ↦ rw fails (nothing-behind rows q p steps all.1)
]

takes-no_adds : (by : ℕ) (qs : List ℕ) → AllByRecursion IsNoAdd (takes_of by qs)
takes-no_adds by [] = tt
takes-no_adds by (q ∷ qs) = (tt, takes-no_adds by qs)

channel-no_add : (n : ℕ) (s : Step) → IsThere 0 0 n s → IsNoAdd s
channel-no_add n (step.Add row by) is = omega (arith, is)
channel-no_add n (step.Take word by) is = tt
channel-no_add n (step.Open channel) is = tt
channel-no_add n (step.Built channel) is = tt

-- All steps.

module _ (words channels : ℕ) (rows : List Ask) (by : ℕ) (adding building : List Step)
    (known : AllByRecursion (λ ask. ask.cluster < words) rows) (added : IsCounted (length rows) 0 0 adding)
    (built : IsCounted 0 0 channels building) where
  abbrev named : List Step
  named = takes_of by (firsts (words_swapped rows))

  abbrev others : List Step
  others = takes_of by (other_words words rows)

  abbrev front : List Step
  front = adding ++ (named ++ others)

  abbrev steps : List Step
  steps = replay_steps words rows by adding building

  joined : steps ≡ front ++ building
  joined =
      ap (λ rest. adding ++ rest) (sym (regroup named others building)) ∙ sym (regroup adding (named ++ others) building)
    where
      regroup : (xs ys zs : List Step) → (xs ++ ys) ++ zs ≡ xs ++ (ys ++ zs)
      regroup [] ys zs = refl
      regroup (x ∷ xs) ys zs = ap (λ more. x ∷ more) (regroup xs ys zs)

  -- steps that are counted in one part alone
  counted-in : (p : Step → Bool) → count p steps ≡ count p adding + (count p named + (count p others + count p building))
  counted-in p = omega (
    arith,
    count-append p adding (named ++ (others ++ building)),
    count-append p named (others ++ building),
    count-append p others building,
  )

  front-none : (p : Step → Bool) → ((row by : ℕ) → p (step.Add row by) ≡ false) → ((word : ℕ) → p (step.Take word by) ≡ false) →
      count p front ≡ 0
  front-none p adds_none takes_none = omega (
    arith,
    count-append p adding (named ++ others),
    count-append p named others,
    rows-alone (length rows) p adding adds_none added.there,
    takes-alone p by (firsts (words_swapped rows)) takes_none,
    takes-alone p by (other_words words rows) takes_none,
  )

  whole : IsCounted (length rows) words channels steps
  whole = record {
    there = all_append (IsThere (length rows) words channels) adding (named ++ (others ++ building))
        (all_weaker (IsThere (length rows) 0 0) (IsThere (length rows) words channels) (row-there (length rows) words channels)
        adding added.there)
        (all_append (IsThere (length rows) words channels) named (others ++ building)
        (all_mapped (IsThere (length rows) words channels) (λ q. step.Take q by) (firsts (words_swapped rows))
        (firsts-all (λ q. q < words) (words_swapped rows) (all_mapped (λ q. q < words) (λ (ask : Ask). ask.cluster) rows known)))
        (all_append (IsThere (length rows) words channels) others building
        (all_mapped (IsThere (length rows) words channels) (λ q. step.Take q by) (other_words words rows)
        (all_filtered (λ q. q < words) (λ q. not (is_among (words_swapped rows) q)) (range_with_len 0 words)
        (range-below 0 words words (omega arith))))
        (all_weaker (IsThere 0 0 channels) (IsThere (length rows) words channels)
        (channel-there (length rows) words channels) building built.there)));
    added = λ r below. omega (
      arith,
      counted-in (adds r),
      added.added r below,
      takes-alone (adds r) by (firsts (words_swapped rows)) (λ word. refl),
      takes-alone (adds r) by (other_words words rows) (λ word. refl),
      channels-alone channels (adds r) building (λ channel. refl) (λ channel. refl) built.there,
    );
    taken = λ q below. omega (
      arith,
      counted-in (takes q),
      rows-alone (length rows) (takes q) adding (λ row by. refl) added.there,
      takes-count by (firsts (words_swapped rows)) q,
      takes-count by (other_words words rows) q,
      each-once words rows q below,
      channels-alone channels (takes q) building (λ channel. refl) (λ channel. refl) built.there,
    );
    opened = λ c below. omega (
      arith,
      counted-in (opens c),
      rows-alone (length rows) (opens c) adding (λ row by. refl) added.there,
      takes-alone (opens c) by (firsts (words_swapped rows)) (λ word. refl),
      takes-alone (opens c) by (other_words words rows) (λ word. refl),
      built.opened c below,
    );
    built = λ c below. omega (
      arith,
      counted-in (builds c),
      rows-alone (length rows) (builds c) adding (λ row by. refl) added.there,
      takes-alone (builds c) by (firsts (words_swapped rows)) (λ word. refl),
      takes-alone (builds c) by (other_words words rows) (λ word. refl),
      built.built c below,
    );
    settled = ap (λ ss. count takes_one (behind opens_one ss)) joined
        ∙ ap (count takes_one) (behind-past opens_one front building (front-none opens_one (λ row by. refl) (λ word. refl)))
        ∙ built.settled;
    later = λ c below. ap (λ ss. count (builds c) (behind (opens c) ss)) joined
        ∙ ap (count (builds c)) (behind-past (opens c) front building (front-none (opens c) (λ row by. refl) (λ word. refl)))
        ∙ built.later c below;
  }

  -- all rows stand before the first take
  left-none : (q : ℕ) → left_at rows steps q ≡ 0
  left-none q =
      totalled (added_by rows q) (behind (takes q) steps)
      ∙ ap (total (added_by rows q)) (behind-past (takes q) adding (named ++ (others ++ building))
      (rows-alone (length rows) (takes q) adding (λ row by. refl) added.there))
      ∙ nothing-behind rows q (takes q) (named ++ (others ++ building))
      (all_append IsNoAdd named (others ++ building) (takes-no_adds by (firsts (words_swapped rows)))
      (all_append IsNoAdd others building (takes-no_adds by (other_words words rows))
      (all_weaker (IsThere 0 0 channels) IsNoAdd (channel-no_add channels) building built.there)))

  abbrev nothing : List ℕ
  nothing = replicate words 0

  long : length nothing ≡ words
  long = length-replicate words 0

  left-is : left_of nothing rows steps ≡ nothing
  unfolding left_of
  left-is =
      ap (λ n. map (left_at rows steps) (range_with_len 0 n)) long
      ∙ sym (mapped-at (left_at rows steps) nothing words long (λ q below. zeros words q ∙ sym (left-none q)))

  cut-is : cut_of nothing rows steps ≡ requests.cut_of words rows
  unfolding requests.cut_of
  cut-is =
      mapped-at (asked rows) (cut_of nothing rows steps) words (cut-long rows nothing steps ∙ long)
      (λ q below.
      let inside : q < length nothing = omega (arith, below, long) in
      let all = conserved rows nothing channels steps q
      (subst (λ n. IsComplete (length rows) n channels steps) (sym long) (counted-complete whole)) inside in
      let left : slice_index (left_of nothing rows steps) q ≡ 0 = ap (λ ws. slice_index ws q) left-is ∙ zeros words q in
      omega (arith, all, left, zeros words q))

pub replays_are_complete : ReplaysAreComplete
replays_are_complete words channels rows by adding building known added built = (
  counted-complete (whole words channels rows by adding building known (complete-counted added) (complete-counted built)),
  cut-is words channels rows by adding building known (complete-counted added) (complete-counted built),
  left-is words channels rows by adding building known (complete-counted added) (complete-counted built),
)
