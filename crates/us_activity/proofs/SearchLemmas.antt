-- The last mark up to a round, of marks in order.
use Rattle.std.proofs.Common.{◌≡◌, ℕ, zero, suc, ◌+◌, ◌-◌, ◌*◌, ◌<◌, ◌≤◌, ◌==◌, ◌⊎◌, Bool, true, false, not, if◌then◌else◌, List, length, get_or, refl, sym, ap, ap₂, subst, ◌∙◌, inl, inr, arith, eqb-true, eq-eqb, ltb-true, leb-true, le-leb, lt-ltb}
use Rattle.std.specs.Prelude.{◌&&◌, nat_lt, nat_le}
use Rattle.std.specs.List.Sorted.{IsPartitionedBy}
use Rattle.std.proofs.lemmas.Bool.{cases_Bool, cases_lt, and_parts}
use Rattle.std.proofs.lemmas.List.Folds.{Any-from_list_any, list_any_at}
use Rattle.std.proofs.lemmas.List.{get_or_default}
use Rattle.us_activity.specs.declared.marks.Mark.{Mark}
use Rattle.us_activity.specs.Marks.{is_mark, says, active_before, is_active}
use Rattle.us_activity.specs.Kept.{AreInOrder, IsNotLater, IsPartedAt, is_up_to, time_of}

-- a test that can't be passed fails
pub fails : (b : Bool) → (b ≡ true → ⊥) → b ≡ false
fails true never = absurd (never refl)
fails false never = refl

-- Marks of rounds.

pub none_said : (marks : List Mark) (word n : ℕ) →
    ((r : ℕ) (active : Bool) → r < n → says marks word r active ≡ false) → active_before marks word n ≡ true
none_said marks word zero none = refl
none_said marks word (suc n) none =
    rw (none n true (omega arith), none n false (omega arith))
    (none_said marks word n (λ r active early. none r active (omega (arith, early))))

said_last : (marks : List Mark) (word n r : ℕ) → r < n →
    ((q : ℕ) (active : Bool) → r < q → q < n → says marks word q active ≡ false) →
    active_before marks word n ≡ active_before marks word (suc r)
said_last marks word zero r early none = absurd (omega (arith, early))
said_last marks word (suc n) r early none = elim (cases_lt r n) [
  | inl before ↦
      rw (none n true before (omega arith), none n false before (omega arith))
      (said_last marks word n r before (λ q active late soon. none q active late (omega (arith, soon))))
  | inr at ↦
      let same : n ≡ r = omega (arith, at, early) in
      ap (λ k. active_before marks word (suc k)) same
]

-- what a mark says
record Says (m : Mark) (word round : ℕ) (active : Bool) : Type 0 where
  pub word_is : m.word ≡ word
  pub round_is : m.round ≡ round
  pub active_is : m.active ≡ active

says_so : (m : Mark) (word round : ℕ) (active : Bool) → is_mark word round active m ≡ true → Says m word round active
says_so m word round active is =
    let parts = and_parts (m.word == word) ((m.round == round) && (if active then m.active else not m.active)) is in
    let more = and_parts (m.round == round) (if active then m.active else not m.active) parts.1 in
    record {
      word_is = eqb-true m.word word parts.0;
      round_is = eqb-true m.round round more.0;
      active_is = by m.active active more.1;
    }
  where
    by : (a b : Bool) → (if b then a else not a) ≡ true → a ≡ b
    by true true is = refl
    by true false is = let no : false ≡ true = is in cc
    by false true is = let no : false ≡ true = is in cc
    by false false is = refl

so_says : (m : Mark) (word round : ℕ) (active : Bool) → m.word ≡ word → m.round ≡ round → m.active ≡ active →
    is_mark word round active m ≡ true
so_says m word round active word_is round_is active_is =
    rw (eq-eqb m.word word word_is, eq-eqb m.round round round_is) (by m.active active active_is)
  where
    by : (a b : Bool) → a ≡ b → (if b then a else not a) ≡ true
    by true true is = refl
    by true false is = cc
    by false true is = cc
    by false false is = refl

-- In order.

-- a mark of a flow up to a round is up to it
up_to : (word round : ℕ) (m : Mark) → m.word ≡ word → m.round ≤ round → is_up_to word round m ≡ true
up_to word round m same early = elim (cases_Bool (nat_lt m.word word)) [
  | inl is ↦ rw is refl
  | inr out ↦ rw (out, eq-eqb m.word word same, le-leb m.round round early) refl
]

-- and one that is up to it is of a flow before, or of this one and no later
up_to_is : (word round : ℕ) (m : Mark) → is_up_to word round m ≡ true →
    (m.word < word) ⊎ ((m.word ≡ word) × (m.round ≤ round))
up_to_is word round m is = elim (cases_Bool (nat_lt m.word word)) [
  | inl before ↦ inl (ltb-true m.word word before)
  | inr out ↦
      let rest : (m.word == word) && nat_le m.round round ≡ true = rw out at is in
      let parts = and_parts (m.word == word) (nat_le m.round round) rest in
      inr (eqb-true m.word word parts.0, leb-true m.round round parts.1)
]

-- no later in time, no later in round
round_before : (a b : Mark) (round : ℕ) → time_of a ≤ time_of b → b.round ≤ round → a.round ≤ round
round_before a b round times early = elim (cases_Bool a.active) [
  | inl is_a ↦ elim (cases_Bool b.active) [
    | inl is_b ↦ omega (arith, rw (is_a, is_b) at times, early)
    | inr out_b ↦ omega (arith, rw (is_a, out_b) at times, early)
  ]
  | inr out_a ↦ elim (cases_Bool b.active) [
    | inl is_b ↦ omega (arith, rw (out_a, is_b) at times, early)
    | inr out_b ↦ omega (arith, rw (out_a, out_b) at times, early)
  ]
]

pub parted : (marks : List Mark) (word round : ℕ) → AreInOrder marks → IsPartitionedBy (is_up_to word round) marks
parted marks word round are i j d order inside is =
    by (get_or marks i d) (get_or marks j d) (are.ordered i j d order inside)
    (up_to_is word round (get_or marks j d) is)
  where
    before : (m : Mark) → m.word < word → is_up_to word round m ≡ true
    before m lower = rw (lt-ltb m.word word lower) refl

    by : (a b : Mark) → IsNotLater a b → (b.word < word) ⊎ ((b.word ≡ word) × (b.round ≤ round)) →
        is_up_to word round a ≡ true
    by a b (inl lower) (inl low) = before a (omega (arith, lower, low))
    by a b (inl lower) (inr own) = before a (omega (arith, lower, own.0))
    by a b (inr same) (inl low) = before a (omega (arith, same.0, low))
    by a b (inr same) (inr own) =
        up_to word round a (same.0 ∙ own.0) (round_before a b round same.1 own.1)

-- where a mark of this flow up to the round stands
module _ (marks : List Mark) (word round count : ℕ) (point : IsPartedAt marks word round count) where
  early_place : (k : ℕ) (m : Mark) → k < length marks → get_or marks k m ≡ m → m.word ≡ word → m.round ≤ round →
      k < count
  early_place k m inside at same early = elim (cases_lt k count) [
    | inl before ↦ before
    | inr late ↦
        let out : is_up_to word round (get_or marks k m) ≡ false = point.1 k m late inside in
        let is : is_up_to word round (get_or marks k m) ≡ true =
        ap (is_up_to word round) at ∙ up_to word round m same early in
        let no : true ≡ false = sym is ∙ out in
        cc
  ]

  -- where an own one says something, up to the round
  record Found (r : ℕ) (active : Bool) : Type 0 where
    pub place : ℕ
    pub mark : Mark
    pub at : get_or marks place mark ≡ mark
    pub early : place < count
    pub so : Says mark word r active

  found : (r : ℕ) (active : Bool) → r ≤ round → says marks word r active ≡ true → Found r active
  found r active early is =
      let any = Any-from_list_any (is_mark word r active) marks is in
      let so = says_so any.1 word r active any.4 in
      record {
        place = any.0;
        mark = any.1;
        at = any.3;
        early = early_place any.0 any.1 any.2 any.3 so.word_is (omega (arith, so.round_is, early));
        so = so;
      }

  next : round + 1 ≡ suc round
  next = omega arith

  pub active_without : count ≡ 0 → is_active marks word round ≡ true
  active_without first =
      ap (active_before marks word) next ∙ none_said marks word (suc round) (λ r active early.
      fails (says marks word r active) (λ is.
      let here = found r active (omega (arith, early)) is in
      omega (arith, here.early, first)))

  -- the last mark up to the round
  module _ (last : Mark) (are : AreInOrder marks) (some : 0 < count) (bound : count ≤ length marks)
      (is_last : get_or marks (count - 1) last ≡ last) where
    up_to_last : is_up_to word round last ≡ true
    up_to_last = ap (is_up_to word round) (sym is_last) ∙ point.0 (count - 1) last (omega arith) (omega (arith, some))

    -- none of its flow up to the round is later
    not_later : (r : ℕ) (active : Bool) (here : Found r active) → IsNotLater here.mark last
    not_later r active here =
        let m : Mark = here.mark in
        let order = are.ordered here.place (count - 1) m (omega (arith, here.early)) (omega (arith, some, bound)) in
        let there : get_or marks (count - 1) m ≡ last =
        get_or_default marks (count - 1) m last (omega (arith, some, bound)) ∙ is_last in
        subst (λ a. IsNotLater a last) here.at (subst (IsNotLater (get_or marks here.place m)) there order)

    pub active_by_another : (last.word ≡ word → ⊥) → is_active marks word round ≡ true
    active_by_another other =
        ap (active_before marks word) next ∙ none_said marks word (suc round) (λ r active early.
        fails (says marks word r active) (λ is.
        let here = found r active (omega (arith, early)) is in
        by here.mark here.so.word_is (not_later r active here) (up_to_is word round last up_to_last)))
      where
        by : (m : Mark) → m.word ≡ word → IsNotLater m last →
            (last.word < word) ⊎ ((last.word ≡ word) × (last.round ≤ round)) → ⊥
        by m own order (inr same) = other same.0
        by m own (inl lower) (inl low) = omega (arith, own, lower, low)
        by m own (inr same) (inl low) = omega (arith, own, same.0, low)

    -- an own one is no later in time
    own_time : (r : ℕ) (active : Bool) → r ≤ round → last.word ≡ word → says marks word r active ≡ true →
        r * 2 + (if active then 1 else 0) ≤ time_of last
    own_time r active early own is =
        let here = found r active early is in
        by here.mark here.so (not_later r active here)
      where
        by : (m : Mark) → Says m word r active → IsNotLater m last →
            r * 2 + (if active then 1 else 0) ≤ time_of last
        by m so (inl lower) = absurd (omega (arith, so.word_is, own, lower))
        by m so (inr same) =
            subst (λ a. a ≤ time_of last)
            (ap₂ (λ (q : ℕ) (b : Bool). q * 2 + (if b then 1 else 0)) so.round_is so.active_is) same.1

    pub active_by_last : last.word ≡ word → is_active marks word round ≡ last.active
    active_by_last own =
        ap (active_before marks word) next ∙
        said_last marks word (suc round) last.round (omega (arith, early)) (λ r active late soon.
        fails (says marks word r active) (λ is. later_none r active last.active late
        (own_time r active (omega (arith, soon)) own is))) ∙
        by last.active refl
      where
        early : last.round ≤ round
        early = elim (up_to_is word round last up_to_last) [
          | inl low ↦ absurd (omega (arith, low, own))
          | inr same ↦ same.1
        ]

        later_none : (r : ℕ) (active b : Bool) → last.round < r →
            r * 2 + (if active then 1 else 0) ≤ last.round * 2 + (if b then 1 else 0) → ⊥
        later_none r active true late times = omega (arith, late, times)
        later_none r active false late times = omega (arith, late, times)

        here : (b : Bool) → last.active ≡ b → says marks word last.round b ≡ true
        here b is =
            list_any_at (is_mark word last.round b) marks (count - 1) last (omega (arith, some, bound))
            (ap (is_mark word last.round b) is_last ∙ so_says last word last.round b own refl is)

        by : (b : Bool) → last.active ≡ b → active_before marks word (suc last.round) ≡ b
        by true is = rw (here true is) refl
        by false is =
            let none : says marks word last.round true ≡ false =
            fails (says marks word last.round true) (λ so.
            let times = own_time last.round true early own so in
            let least : time_of last ≡ last.round * 2 + 0 = ap (λ b. last.round * 2 + (if b then 1 else 0)) is in
            omega (arith, times, least)) in
            rw (none, here false is) refl
