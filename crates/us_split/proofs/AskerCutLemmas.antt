-- Who asks in a cut: words that have nothing are passed, since nothing changes with them.
use Rattle.std.proofs.Common.{◌≡◌, ℕ, zero, suc, ◌+◌, ◌-◌, ◌<◌, ◌≤◌, List, [], ◌∷◌, ◌++◌, bit_or, length, refl, get_or, take, drop, replicate, zip, sym, ap, ◌∙◌, subst, inl, inr, arith}
use Rattle.std.specs.Prelude.{slice_index}
use Rattle.std.specs.List.{AllByRecursion}
use Rattle.std.proofs.lemmas.Bool.{cases_lt}
use Rattle.std.proofs.lemmas.Nat.{le_or_l, le_or_r}
use Rattle.std.proofs.lemmas.List.{length-append, get_or-drop, get_or-take, get_or-replicate}
use Rattle.us_flows.specs.Clusters.{Word}
use Rattle.us_split.specs.Requested.{requested_in}
use Rattle.us_split.specs.Askers.{HasNothing}
use Rattle.us_split.proofs.AskerStepLemmas.{Fits, none-more, room-more, walked, walked-more}
use Rattle.us_split.proofs.RequestedLemmas.{requested-idle}

-- so many words more
pub idle_more : (cut : List ℕ) (from at count : ℕ) → HasNothing cut from at →
    take count (drop at cut) ≡ replicate count 0 → HasNothing cut from (at + count)
idle_more cut from at count none idle = λ word above below. elim (cases_lt word at) [
  | inl before ↦ none word above before
  | inr after ↦
      let place : ℕ = word - at in
      let here : place < count = omega (arith, after, below) in
      let there : at + place ≡ word = omega (arith, after) in
      ap (λ n. get_or cut n 0) (sym there) ∙ sym (get_or-drop at cut place 0) ∙
      sym (get_or-take count (drop at cut) place 0 here) ∙ ap (λ xs. get_or xs place 0) idle ∙
      get_or-replicate count place 0 0 here
]

-- one word more of which no bit is set
pub idle-push : (words : List ℕ) (bits bytes : ℕ) → (bits ≡ 0 → words ≡ replicate (length words) 0) → bit_or bits bytes ≡ 0 →
    words ++ bytes ∷ [] ≡ replicate (length (words ++ bytes ∷ [])) 0
idle-push words bits bytes idle none =
    let before : bits ≡ 0 = omega (arith, le_or_l bits bytes, none) in
    let here : bytes ≡ 0 = omega (arith, le_or_r bits bytes, none) in
    let more : suc (length words) ≡ length (words ++ bytes ∷ []) = omega (arith, length-append words (bytes ∷ [])) in
    ap (λ n. words ++ n ∷ []) here ∙ ap (λ l. l ++ 0 ∷ []) (idle before) ∙ one-more (length words) ∙
    ap (λ n. replicate n 0) more
  where
    one-more : (n : ℕ) → replicate {A = ℕ} n 0 ++ 0 ∷ [] ≡ replicate (suc n) 0
    one-more zero = refl
    one-more (suc n) = ap (λ l. 0 ∷ l) (one-more n)

-- where a cut has nothing, nothing is requested
pub none-requested : (words : List Word) (cut : List ℕ) (from to : ℕ) → HasNothing cut from to →
    HasNothing (requested_in words cut) from to
none-requested words cut from to none = λ word above below. requested-idle words cut word (none word above below)

-- With one of them nothing changes,
module _ (k : ℕ) (counts cut : List ℕ) (inside : k < length cut) (none : slice_index cut k ≡ 0) where
  walked-idle : walked (k + 1) counts cut ≡ walked k counts cut
  walked-idle =
      ap (λ c. walked (k + 1) c cut) (sym (none-more counts k (slice_index cut k) none)) ∙ walked-more k counts cut inside

  room-idle : AllByRecursion Fits (zip (drop k counts) (drop k cut)) →
      AllByRecursion Fits (zip (drop (k + 1) counts) (drop (k + 1) cut))
  room-idle all =
      subst (λ c. AllByRecursion Fits (zip (drop (k + 1) c) (drop (k + 1) cut)))
      (none-more counts k (slice_index cut k) none) (room-more k (slice_index cut k) counts cut inside all)

-- nor with so many of them,
walked-on : (count from : ℕ) (counts cut : List ℕ) → from + count ≤ length cut → HasNothing cut from (from + count) →
    walked (from + count) counts cut ≡ walked from counts cut
walked-on zero from counts cut inside none =
    let same : from + 0 ≡ from = omega arith in ap (λ k. walked k counts cut) same
walked-on (suc count) from counts cut inside none =
    let next : from + suc count ≡ from + count + 1 = omega arith in
    ap (λ k. walked k counts cut) next ∙
    walked-idle (from + count) counts cut (omega (arith, inside)) (none (from + count) (omega arith) (omega arith)) ∙
    walked-on count from counts cut (omega (arith, inside)) (λ k above below. none k above (omega (arith, below)))

room-on : (count from : ℕ) (counts cut : List ℕ) → from + count ≤ length cut → HasNothing cut from (from + count) →
    AllByRecursion Fits (zip (drop from counts) (drop from cut)) →
    AllByRecursion Fits (zip (drop (from + count) counts) (drop (from + count) cut))
room-on zero from counts cut inside none all =
    let same : from ≡ from + 0 = omega arith in
    subst (λ k. AllByRecursion Fits (zip (drop k counts) (drop k cut))) same all
room-on (suc count) from counts cut inside none all =
    let next : from + count + 1 ≡ from + suc count = omega arith in
    subst (λ k. AllByRecursion Fits (zip (drop k counts) (drop k cut))) next
    (room-idle (from + count) counts cut (omega (arith, inside)) (none (from + count) (omega arith) (omega arith))
    (room-on count from counts cut (omega (arith, inside)) (λ k above below. none k above (omega (arith, below))) all))

-- up to another
module _ (from to : ℕ) (counts cut : List ℕ) (order : from ≤ to) (inside : to ≤ length cut) (none : HasNothing cut from to) where
  is : from + (to - from) ≡ to
  is = omega (arith, order)

  pub walked-passed : walked to counts cut ≡ walked from counts cut
  walked-passed =
      subst (λ k. walked k counts cut ≡ walked from counts cut) is
      (walked-on (to - from) from counts cut (omega (arith, inside, order)) (λ k above below. none k above (omega (arith, below, order))))

  pub room-passed : AllByRecursion Fits (zip (drop from counts) (drop from cut)) →
      AllByRecursion Fits (zip (drop to counts) (drop to cut))
  room-passed all =
      subst (λ k. AllByRecursion Fits (zip (drop k counts) (drop k cut))) is
      (room-on (to - from) from counts cut (omega (arith, inside, order)) (λ k above below. none k above (omega (arith, below, order))) all)
