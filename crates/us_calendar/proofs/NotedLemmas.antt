-- What is noted far comes near, and what is noted for the next round is near.
use Rattle.std.proofs.Common.{◌≡◌, ℕ, ◌+◌, ◌||◌, true, false, List, Option, Some, None, IfSome, IfNone, refl, ap, ap₂, sym, ◌∙◌, inl, inr, le-ltb, lt-ltb, arith}
use Rattle.std.specs.BTreeSet.{BTreeSet}
use Rattle.std.proofs.lemmas.Bool.{cases_Bool, cases_eq, cases_lt}
use Rattle.us_calendar.specs.Agendas.{Agenda, is_near, is_far, is_noted, IsBitChanged, IsChanged, IsFirst, IsNone, NoneBefore}

module _ (near new_near : List ℕ) (far new_far : BTreeSet (ℕ × ℕ)) (round place : ℕ)
    (bit : IsBitChanged near round place true new_near) (taken : IsChanged (is_far far) (is_far new_far) round place false)
    (there : is_far far round place ≡ true) where
  pub came_here : (q : ℕ) → (is_near new_near round q || is_far new_far round q) ≡ (is_near near round q || is_far far round q)
  came_here q = elim (cases_eq q place) [
    | inl here ↦
        let now : is_near new_near round q ≡ true = ap (is_near new_near round) here ∙ bit.here round refl in
        let was : is_far far round q ≡ true = ap (is_far far round) here ∙ there in
        elim (cases_Bool (is_near near round q)) [
          | inl t ↦ rw (now, t) refl
          | inr f ↦ rw (now, f, was) refl
        ]
    | inr other ↦ ap₂ (λ a b. a || b) (bit.others round q (λ _ e. other e)) (taken.others round q (λ _ e. other e))
  ]

  -- and nothing is noted that wasn't
  pub came_from : (r q : ℕ) → is_far new_far r q ≡ true → is_far far r q ≡ true
  came_from r q is = elim (cases_eq r round) [
    | inr other ↦ sym (taken.others r q (λ e _. other e)) ∙ is
    | inl same ↦ elim (cases_eq q place) [
      | inr other ↦ sym (taken.others r q (λ _ e. other e)) ∙ is
      | inl here ↦ ap₂ (is_far far) same here ∙ there
    ]
  ]

-- what is noted for the next round, and what of it is taken
module _ (agenda : Agenda) where
  now_near : (p : ℕ) → is_noted agenda agenda.round p ≡ is_near agenda.near agenda.round p
  now_near p =
      rw (le-ltb agenda.round agenda.round (omega arith), lt-ltb agenda.round (agenda.round + 64) (omega arith)) refl

  pub none_near : (from : ℕ) → NoneBefore (is_noted agenda agenda.round) from →
      NoneBefore (is_near agenda.near agenda.round) from
  none_near from none p before = sym (now_near p) ∙ none p before

  pub first_now : (found : Option ℕ) → IfSome found (IsFirst (is_near agenda.near agenda.round)) →
      IfSome found (IsFirst (is_noted agenda agenda.round))
  first_now None is = tt
  first_now (Some p) is =
      record { there = now_near p ∙ is.there; before = λ q low. now_near q ∙ is.before q low }

  pub none_now : (found : Option ℕ) → IfNone found (IsNone (is_near agenda.near agenda.round)) →
      IfNone found (IsNone (is_noted agenda agenda.round))
  none_now None is = λ p. now_near p ∙ is p
  none_now (Some p) is = tt

  module _ (near : List ℕ) where
    abbrev pub with_near : Agenda
    with_near = record { round = agenda.round; near = near; far = agenda.far }

    taken_one : (p : ℕ) → IsBitChanged agenda.near agenda.round p false near →
        IsChanged (is_noted agenda) (is_noted with_near) agenda.round p false
    taken_one p bit = record {
      here = rw (le-ltb agenda.round agenda.round (omega arith), lt-ltb agenda.round (agenda.round + 64) (omega arith))
          (bit.here agenda.round refl);
      others = λ r q apart. elim (cases_lt r agenda.round) [
        | inl past ↦ rw (lt-ltb r agenda.round past) refl
        | inr from ↦ elim (cases_lt r (agenda.round + 64)) [
          | inl soon ↦
              rw (le-ltb r agenda.round from, lt-ltb r (agenda.round + 64) soon)
              (bit.others r q (λ e. apart (omega (arith, e, from, soon))))
          | inr late ↦ rw (le-ltb r agenda.round from, le-ltb r (agenda.round + 64) late) refl
        ]
      ];
    }

    pub taken_now : (found : Option ℕ) → IfSome found (λ p. IsBitChanged agenda.near agenda.round p false near) →
        IfSome found (λ p. IsChanged (is_noted agenda) (is_noted with_near) agenda.round p false)
    taken_now None bit = tt
    taken_now (Some p) bit = taken_one p bit
