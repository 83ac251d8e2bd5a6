-- The marks that the asks of a trace are.
use Rattle.std.proofs.Common.{◌≡◌, ℕ, zero, suc, ◌+◌, ◌-◌, ◌<◌, ◌≤◌, ◌==◌, ◌⊎◌, Bool, true, false, if◌then◌else◌, List, [], ◌∷◌, ◌++◌, append_assoc, filter, flat_map, filter_map, Option, Some, None, refl, sym, ap, ◌∙◌, inl, inr, arith, eq-eqb, ne_eqb, lt-ltb, le-ltb, ltb-true}
use Rattle.std.specs.Prelude.{◌&&◌, ◌||◌, nat_lt}
use Rattle.std.specs.List.{cons_option, list_any, range_with_len}
use Rattle.std.proofs.lemmas.Bool.{cases_Bool, cases_eq, and_parts}
use Rattle.std.proofs.lemmas.List.{append-nil}
use Rattle.std.proofs.lemmas.List.Folds.{list_any-append}
use Rattle.std.proofs.lemmas.List.Sums.{sum_by-cons}
use Rattle.us_requests.specs.declared.asks.Ask.{Ask}
use Rattle.us_requests.specs.Cuts.{asked}
use Rattle.us_requests.specs.Traces.{TraceAsks, asks_in}
use Rattle.us_activity.specs.declared.marks.Mark.{Mark}
use Rattle.us_activity.specs.Marks.{is_mark, says}
use Rattle.us_activity.specs.Kept.{mark_of, marks_in, round_marks, silent_at}

-- Tests.

and_false : (b : Bool) → (b && false) ≡ false
and_false true = refl
and_false false = refl

or_false : (b : Bool) → (b || false) ≡ b
or_false true = refl
or_false false = refl

-- what there is passes a test
abbrev passes : {Y : Type 0} → (Y → Bool) → Option Y → Bool
passes p None = false
passes p (Some y) = p y

any-kept : {X Y : Type 0} (p : Y → Bool) (f : X → Option Y) (xs : List X) →
    list_any p (filter_map f xs) ≡ list_any (λ x. passes p (f x)) xs
any-kept p f [] = refl
any-kept {X = X} {Y = Y} p f (x ∷ xs) = by (f x) (any-kept p f xs)
  where
    by : (y : Option Y) → list_any p (filter_map f xs) ≡ list_any (λ z. passes p (f z)) xs →
        list_any p (cons_option y (filter_map f xs)) ≡ (passes p y || list_any (λ z. passes p (f z)) xs)
    by None rest = rest
    by (Some y) rest = ap (λ b. p y || b) rest

any-none : {X : Type 0} (p : X → Bool) (xs : List X) → ((x : X) → p x ≡ false) → list_any p xs ≡ false
any-none p [] none = refl
any-none p (x ∷ xs) none = rw (none x) (any-none p xs none)

any-same : {X : Type 0} (p q : X → Bool) (xs : List X) → ((x : X) → p x ≡ q x) → list_any p xs ≡ list_any q xs
any-same p q [] same = refl
any-same p q (x ∷ xs) same = rw (same x) (ap (λ b. q x || b) (any-same p q xs same))

-- Asks of some bytes by a word.

abbrev asks_some : ℕ → Ask → Bool
asks_some by ask = nat_lt 0 ask.bytes && (ask.cluster == by)

some_asked : (by : ℕ) (asks : List Ask) → nat_lt 0 (asked asks by) ≡ list_any (asks_some by) asks
some_asked by [] = refl
some_asked by (ask ∷ asks) = elim (cases_eq ask.cluster by) [
  | inl own ↦
      let sum = sum_by-cons (λ (a : Ask). a.bytes) ask (filter (λ a. a.cluster == by) asks) in
      rw (eq-eqb ask.cluster by own) (ap (nat_lt 0) sum ∙ own_bytes ask.bytes (asked asks by) _ (some_asked by asks))
  | inr other ↦
      rw (ne_eqb ask.cluster by other, and_false (nat_lt 0 ask.bytes)) (some_asked by asks)
]
  where
    own_bytes : (bytes sum : ℕ) (more : Bool) → nat_lt 0 sum ≡ more →
        nat_lt 0 (bytes + sum) ≡ ((nat_lt 0 bytes && true) || more)
    own_bytes bytes sum more is = elim (cases_eq bytes 0) [
      | inl none ↦
          let rest : bytes + sum ≡ sum = omega (arith, none) in
          ap (nat_lt 0) rest ∙ is ∙ sym (rw (le-ltb 0 bytes (omega (arith, none))) refl)
      | inr some ↦
          lt-ltb 0 (bytes + sum) (omega (arith, some)) ∙ sym (rw (lt-ltb 0 bytes (omega (arith, some))) refl)
    ]

-- Marks of a flow: those that its two words make.

module _ (silent : List Bool) (word : ℕ) (silent_is : silent_at silent word ≡ true)
    (active_is : silent_at silent (word + 1) ≡ false) where
  -- the word by which it says so
  abbrev pub said_by : Bool → ℕ
  said_by active = if active then word + 1 else word

  -- by the word for silence
  by_silent : (cluster round : ℕ) (active : Bool) → silent_at silent cluster ≡ true →
      is_mark word round active (record { word = cluster; round = round; active = false }) ≡ (cluster == said_by active)
  by_silent cluster round true s = elim (cases_eq cluster word) [
    | inl same ↦
        rw (eq-eqb cluster word same, eq-eqb round round refl, ne_eqb cluster (word + 1) (λ is. omega (arith, same, is))) refl
    | inr other ↦
        rw (
          ne_eqb cluster word other,
          ne_eqb cluster (word + 1) (λ is.
              let never : true ≡ false = sym s ∙ ap (silent_at silent) is ∙ active_is in
              absurd cc),
        ) refl
  ]
  by_silent cluster round false s = elim (cases_eq cluster word) [
    | inl same ↦ rw (eq-eqb cluster word same, eq-eqb round round refl) refl
    | inr other ↦ rw (ne_eqb cluster word other) refl
  ]

  -- by the one behind it
  by_active : (cluster round : ℕ) (active : Bool) → silent_at silent cluster ≡ false → 0 < cluster →
      is_mark word round active (record { word = cluster - 1; round = round; active = true }) ≡ (cluster == said_by active)
  by_active cluster round true s some = elim (cases_eq (cluster - 1) word) [
    | inl same ↦
        rw (eq-eqb (cluster - 1) word same, eq-eqb round round refl, eq-eqb cluster (word + 1) (omega (arith, same, some))) refl
    | inr other ↦
        rw (ne_eqb (cluster - 1) word other, ne_eqb cluster (word + 1) (λ is. other (omega (arith, is)))) refl
  ]
  by_active cluster round false s some =
      rw (
        eq-eqb round round refl,
        and_false (cluster - 1 == word),
        ne_eqb cluster word (λ is.
            let never : false ≡ true = sym s ∙ ap (silent_at silent) is ∙ silent_is in
            absurd cc),
      ) refl

  -- and by no other
  by_none : (cluster : ℕ) (active : Bool) → silent_at silent cluster ≡ false →
      (nat_lt 0 cluster && silent_at silent (cluster - 1)) ≡ false → false ≡ (cluster == said_by active)
  by_none cluster true s n =
      sym (ne_eqb cluster (word + 1) (λ is.
      let before : cluster - 1 ≡ word = omega (arith, is) in
      let some : nat_lt 0 cluster ≡ true = lt-ltb 0 cluster (omega (arith, is)) in
      let never : true ≡ false = sym (rw (some, before, silent_is) refl) ∙ n in
      absurd cc))
  by_none cluster false s n =
      sym (ne_eqb cluster word (λ is.
      let never : false ≡ true = sym s ∙ ap (silent_at silent) is ∙ silent_is in
      absurd cc))

  -- an ask is such a mark where it asks for some bytes by such a word
  is_said : (round : ℕ) (active : Bool) (ask : Ask) →
      passes (is_mark word round active) (mark_of silent round ask) ≡ asks_some (said_by active) ask
  is_said round active ask = elim (cases_eq ask.bytes 0) [
    | inl none ↦ rw (eq-eqb ask.bytes 0 none, le-ltb 0 ask.bytes (omega (arith, none))) refl
    | inr some ↦
        rw (ne_eqb ask.bytes 0 some, lt-ltb 0 ask.bytes (omega (arith, some)))
        (elim (cases_Bool (silent_at silent ask.cluster)) [
          | inl s ↦ rw s (by_silent ask.cluster round active s)
          | inr n ↦ elim (cases_Bool (nat_lt 0 ask.cluster && silent_at silent (ask.cluster - 1))) [
            | inl a ↦
                let parts = and_parts (nat_lt 0 ask.cluster) (silent_at silent (ask.cluster - 1)) a in
                rw (n, a) (by_active ask.cluster round active n (ltb-true 0 ask.cluster parts.0))
            | inr b ↦ rw (n, b) (by_none ask.cluster active n b)
          ]
        ])
  ]

  -- and never one of another round
  is_of_round : (round other : ℕ) (active : Bool) (ask : Ask) → (other ≡ round → ⊥) →
      passes (is_mark word round active) (mark_of silent other ask) ≡ false
  is_of_round round other active ask apart = elim (cases_eq ask.bytes 0) [
    | inl none ↦ rw (eq-eqb ask.bytes 0 none) refl
    | inr some ↦
        rw (ne_eqb ask.bytes 0 some)
        (elim (cases_Bool (silent_at silent ask.cluster)) [
          | inl s ↦ rw (s, ne_eqb other round apart) (and_false (ask.cluster == word))
          | inr n ↦ elim (cases_Bool (nat_lt 0 ask.cluster && silent_at silent (ask.cluster - 1))) [
            | inl a ↦ rw (n, a, ne_eqb other round apart) (and_false (ask.cluster - 1 == word))
            | inr b ↦ rw (n, b) refl
          ]
        ])
  ]

  -- Over the rounds of a trace.
  module _ (v : TraceAsks) where
    said_in : (round : ℕ) (active : Bool) →
        list_any (is_mark word round active) (round_marks silent v round) ≡ nat_lt 0 (asked (asks_in v round) (said_by active))
    said_in round active =
        any-kept (is_mark word round active) (mark_of silent round) (asks_in v round)
        ∙ any-same (λ ask. passes (is_mark word round active) (mark_of silent round ask)) (asks_some (said_by active))
        (asks_in v round) (is_said round active) ∙ sym (some_asked (said_by active) (asks_in v round))

    none_in : (round other : ℕ) (active : Bool) → (other ≡ round → ⊥) →
        list_any (is_mark word round active) (round_marks silent v other) ≡ false
    none_in round other active apart =
        any-kept (is_mark word round active) (mark_of silent other) (asks_in v other)
        ∙ any-none (λ ask. passes (is_mark word round active) (mark_of silent other ask)) (asks_in v other)
        (λ ask. is_of_round round other active ask apart)

    outside : (from n round : ℕ) (active : Bool) → (round < from) ⊎ (from + n ≤ round) →
        list_any (is_mark word round active) (flat_map (round_marks silent v) (range_with_len from n)) ≡ false
    outside from zero round active away = refl
    outside from (suc n) round active away =
        list_any-append (is_mark word round active) (round_marks silent v from)
        (flat_map (round_marks silent v) (range_with_len (from + 1) n))
        ∙ rw (none_in round from active (apart away), outside (from + 1) n round active (next away)) refl
      where
        apart : (round < from) ⊎ (from + suc n ≤ round) → from ≡ round → ⊥
        apart (inl early) same = omega (arith, early, same)
        apart (inr late) same = omega (arith, late, same)

        next : (round < from) ⊎ (from + suc n ≤ round) → (round < from + 1) ⊎ (from + 1 + n ≤ round)
        next (inl early) = inl (omega (arith, early))
        next (inr late) = inr (omega (arith, late))

    inside : (from n round : ℕ) (active : Bool) → from ≤ round → round < from + n →
        list_any (is_mark word round active) (flat_map (round_marks silent v) (range_with_len from n)) ≡
        nat_lt 0 (asked (asks_in v round) (said_by active))
    inside from zero round active late early = absurd (omega (arith, late, early))
    inside from (suc n) round active late early =
        list_any-append (is_mark word round active) (round_marks silent v from)
        (flat_map (round_marks silent v) (range_with_len (from + 1) n))
        ∙ elim (cases_eq from round) [
          | inl same ↦
              rw (
                outside (from + 1) n round active (inl (omega (arith, same))),
                or_false (list_any (is_mark word round active) (round_marks silent v from)),
              )
              (ap (λ r. list_any (is_mark word round active) (round_marks silent v r)) same ∙ said_in round active)
          | inr other ↦
              rw (none_in round from active other)
              (inside (from + 1) n round active (omega (arith, late, other)) (omega (arith, early)))
        ]

    pub said_inside : (round : ℕ) (active : Bool) → round < v.rounds →
        says (marks_in silent v) word round active ≡ nat_lt 0 (asked (asks_in v round) (said_by active))
    said_inside round active early = inside 0 v.rounds round active (omega arith) (omega (arith, early))

    pub said_outside : (round : ℕ) (active : Bool) → v.rounds ≤ round →
        says (marks_in silent v) word round active ≡ false
    said_outside round active late = outside 0 v.rounds round active (inr (omega (arith, late)))

-- A word that marks no flow as silent has no mark.

module _ (silent : List Bool) (word : ℕ) (out : silent_at silent word ≡ false) where
  apart : (by : ℕ) → silent_at silent by ≡ true → by ≡ word → ⊥
  apart by s is =
      let never : true ≡ false = sym s ∙ ap (silent_at silent) is ∙ out in
      absurd cc

  no_mark : (round other : ℕ) (active : Bool) (ask : Ask) →
      passes (is_mark word round active) (mark_of silent other ask) ≡ false
  no_mark round other active ask = elim (cases_eq ask.bytes 0) [
    | inl none ↦ rw (eq-eqb ask.bytes 0 none) refl
    | inr some ↦
        rw (ne_eqb ask.bytes 0 some)
        (elim (cases_Bool (silent_at silent ask.cluster)) [
          | inl s ↦ rw (s, ne_eqb ask.cluster word (apart ask.cluster s)) refl
          | inr n ↦ elim (cases_Bool (nat_lt 0 ask.cluster && silent_at silent (ask.cluster - 1))) [
            | inl a ↦
                let parts = and_parts (nat_lt 0 ask.cluster) (silent_at silent (ask.cluster - 1)) a in
                rw (n, a, ne_eqb (ask.cluster - 1) word (apart (ask.cluster - 1) parts.1)) refl
            | inr b ↦ rw (n, b) refl
          ]
        ])
  ]

  none_by : (v : TraceAsks) (round other : ℕ) (active : Bool) →
      list_any (is_mark word round active) (round_marks silent v other) ≡ false
  none_by v round other active =
      any-kept (is_mark word round active) (mark_of silent other) (asks_in v other)
      ∙ any-none (λ ask. passes (is_mark word round active) (mark_of silent other ask)) (asks_in v other)
      (λ ask. no_mark round other active ask)

  pub never_said : (v : TraceAsks) (round : ℕ) (active : Bool) → says (marks_in silent v) word round active ≡ false
  never_said v round active = over (range_with_len 0 v.rounds)
    where
      over : (rounds : List ℕ) →
          list_any (is_mark word round active) (flat_map (round_marks silent v) rounds) ≡ false
      over [] = refl
      over (other ∷ rounds) =
          list_any-append (is_mark word round active) (round_marks silent v other)
          (flat_map (round_marks silent v) rounds)
          ∙ rw (none_by v round other active, over rounds) refl

-- one round more
range_more : (f : ℕ → List Mark) (from n : ℕ) →
    flat_map f (range_with_len from (suc n)) ≡ flat_map f (range_with_len from n) ++ f (from + n)
range_more f from zero =
    let same : from ≡ from + 0 = omega arith in
    append-nil (f from) ∙ ap f same
range_more f from (suc n) =
    let next : from + 1 + n ≡ from + suc n = omega arith in
    ap (λ rest. f from ++ rest) (range_more f (from + 1) n)
    ∙ sym (append_assoc (f from) (flat_map f (range_with_len (from + 1) n)) (f (from + 1 + n)))
    ∙ ap (λ round. (f from ++ flat_map f (range_with_len (from + 1) n)) ++ f round) next

pub round_more : (f : ℕ → List Mark) (now : List Mark) (n : ℕ) → now ≡ flat_map f (range_with_len 0 n) →
    now ++ f n ≡ flat_map f (range_with_len 0 (n + 1))
round_more f now n is =
    let same : 0 + n ≡ n = omega arith in
    let count : suc n ≡ n + 1 = omega arith in
    ap (λ these. these ++ f n) is
    ∙ sym (range_more f 0 n ∙ ap (λ round. flat_map f (range_with_len 0 n) ++ f round) same)
    ∙ ap (λ m. flat_map f (range_with_len 0 m)) count
