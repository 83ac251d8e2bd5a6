-- A bucket through the rounds of a run.
use Rattle.std.proofs.Common.{◌≡◌, ℕ, zero, suc, ◌+◌, ◌*◌, ◌<◌, ◌≤◌, ◌==◌, Bool, List, [], ◌∷◌, ◌++◌, map, cond, refl, sym, ap, ap₂, ◌∙◌, arith}
use Rattle.std.specs.List.{AllByRecursion, range_with_len}
use Rattle.us_bucket.specs.Levels.{Level, IsLevel, refilled, spent}
use Rattle.us_bucket.proofs.RoundLemmas.{refilled-nothing, refills-are-one}
use Rattle.us_output.specs.declared.rows.Grant.{Grant}
use Rattle.us_credit_rules.specs.Buckets.{has}
use Rattle.us_credit_rules.proofs.LevelLemmas.{refilled-is, spent-nothing, spent-is}
use Rattle.us_lawful.specs.Finals.{level_left}

-- numbers of items don't fall, from this one on
abbrev pub Rising : {X : Type 0} → (X → ℕ) → ℕ → List X → Type 0
Rising number from [] = Unit {0}
Rising number from (x ∷ xs) = (from ≤ number x) × Rising number (number x) xs

-- what holds of each number of a range holds of all
pub range_all : (P : ℕ → Type 0) (from n : ℕ) → ((i : ℕ) → from ≤ i → i < from + n → P i) →
    AllByRecursion P (range_with_len from n)
range_all P from zero each = tt
range_all P from (suc n) each =
    (each from (omega arith) (omega arith), range_all P (from + 1) n (λ i late inside. each i (omega (arith, late)) (omega (arith, inside))))

-- the credits of so many rounds, from one on
abbrev pub rounds_of : (ℕ → ℕ) → ℕ → ℕ → List ℕ
rounds_of credit from n = map credit (range_with_len from n)

-- A bucket with the credits of each round.

-- what is left behind a round, where each takes its bytes,
abbrev pub behind : ℕ → Level → (ℕ → ℕ) → ℕ → Level
behind ticks l f zero = spent (f 0) l
behind ticks l f (suc round) = spent (f (suc round)) (refilled ticks (behind ticks l f round))

-- what is there when it starts,
abbrev pub before : ℕ → Level → (ℕ → ℕ) → ℕ → Level
before ticks l f zero = l
before ticks l f (suc round) = refilled ticks (behind ticks l f round)

-- and whether the round's bytes are
abbrev pub has_round : ℕ → Level → (ℕ → ℕ) → ℕ → Bool
has_round ticks l f round = has (before ticks l f round) (f round)

module _ (ticks : ℕ) (l : Level) where
  pub behind_is : (f : ℕ → ℕ) (round : ℕ) → behind ticks l f round ≡ spent (f round) (before ticks l f round)
  behind_is f zero = refl
  behind_is f (suc round) = refl

  behind_level : (f : ℕ → ℕ) (round : ℕ) → IsLevel l → IsLevel (behind ticks l f round)
  behind_level f zero is = spent-is (f 0) l is
  behind_level f (suc round) is =
      spent-is (f (suc round)) (refilled ticks (behind ticks l f round)) (refilled-is ticks (behind ticks l f round))

  -- of credits that are the same up to there
  pub behind_same : (f g : ℕ → ℕ) (round : ℕ) → ((k : ℕ) → k ≤ round → f k ≡ g k) →
      behind ticks l f round ≡ behind ticks l g round
  behind_same f g zero same = ap (λ bytes. spent bytes l) (same 0 (omega arith))
  behind_same f g (suc round) same =
      ap₂ (λ bytes level. spent bytes (refilled ticks level)) (same (suc round) (omega arith))
      (behind_same f g round (λ k early. same k (omega (arith, early))))

  pub before_same : (f g : ℕ → ℕ) (round : ℕ) → ((k : ℕ) → k < round → f k ≡ g k) →
      before ticks l f round ≡ before ticks l g round
  before_same f g zero same = refl
  before_same f g (suc round) same =
      ap (refilled ticks) (behind_same f g round (λ k early. same k (omega (arith, early))))

  -- behind rounds without credits it has only grown
  pub behind_quiet : (f : ℕ → ℕ) (round more : ℕ) → IsLevel l → ((k : ℕ) → round < k → f k ≡ 0) →
      behind ticks l f (round + more) ≡ refilled (more * ticks) (behind ticks l f round)
  behind_quiet f round zero is none =
      let same : round + 0 ≡ round = omega arith in
      let time : 0 ≡ 0 * ticks = omega arith in
      ap (behind ticks l f) same ∙ sym (refilled-nothing (behind ticks l f round) (behind_level f round is))
      ∙ ap (λ time. refilled time (behind ticks l f round)) time
  behind_quiet f round (suc more) is none =
      let next : round + suc more ≡ suc (round + more) = omega arith in
      let time : more * ticks + ticks ≡ suc more * ticks = omega arith in
      let now : Level = refilled ticks (behind ticks l f (round + more)) in
      ap (behind ticks l f) next
      ∙ ap (λ bytes. spent bytes now) (none (suc (round + more)) (omega arith)) ∙ spent-nothing now
      ∙ ap (refilled ticks) (behind_quiet f round more is none)
      ∙ refills-are-one (more * ticks) ticks (behind ticks l f round)
      ∙ ap (λ time. refilled time (behind ticks l f round)) time

  -- behind the first round come the others
  pub behind_first : (f : ℕ → ℕ) (round : ℕ) →
      behind ticks l f (suc round) ≡ behind ticks (refilled ticks (spent (f 0) l)) (λ k. f (suc k)) round
  behind_first f zero = refl
  behind_first f (suc round) =
      ap (λ level. spent (f (suc (suc round))) (refilled ticks level)) (behind_first f round)

-- and that is what is left of it
pub left_is : (ticks : ℕ) (l : Level) (f : ℕ → ℕ) (from n : ℕ) →
    level_left ticks (rounds_of f from (suc n)) l ≡ behind ticks l (λ k. f (from + k)) n
unfolding level_left
left_is ticks l f from zero =
    let same : from ≡ from + 0 = omega arith in
    ap (λ k. spent (f k) l) same
left_is ticks l f from (suc n) =
    let after : Level = refilled ticks (spent (f from) l) in
    let start : from ≡ from + 0 = omega arith in
    left_is ticks after f (from + 1) n
    ∙ behind_same ticks after (λ k. f (from + 1 + k)) (λ k. f (from + suc k)) n (λ k early. ap f (next k))
    ∙ ap (λ m. behind ticks (refilled ticks (spent (f m) l)) (λ k. f (from + suc k)) n) start
    ∙ sym (behind_first ticks l (λ k. f (from + k)) n)
  where
    next : (k : ℕ) → from + 1 + k ≡ from + suc k
    next k = omega arith

-- Credits of lines.

-- what lines credit in a round,
abbrev pub credit_in : List Grant → ℕ → ℕ
credit_in [] round = 0
credit_in (m ∷ lines) round = cond (m.round == round) m.credit 0 + credit_in lines round

-- with one more
pub credit_push : (lines : List Grant) (g : Grant) (round : ℕ) →
    credit_in (lines ++ g ∷ []) round ≡ credit_in lines round + cond (g.round == round) g.credit 0
credit_push [] g round = omega arith
credit_push (m ∷ lines) g round = omega (arith, credit_push lines g round)
