-- Sets of places as bits: what a round's words have once a bit is set or cleared, and where the first one stands.
use Rattle.std.proofs.Common.{◌≡◌, ◌≢◌, ℕ, ◌+◌, ◌-◌, ◌*◌, ◌/◌, ◌%◌, ◌^◌, ◌==◌, ◌<◌, ◌≤◌, true, false, List, length, get_or, bit_or, bit_and, w64, ap, sym, subst, ◌∙◌, inl, inr, eq-eqb, ne_eqb, arith}
use Rattle.std.specs.Int.{bit_at, trailing_zeros}
use Rattle.std.proofs.Math.ListN.{set}
use Rattle.std.proofs.lemmas.Bool.{cases_eq, cases_lt}
use Rattle.std.proofs.lemmas.Grind.{get_or-set_at, get_or_default_zero}
use Rattle.std.proofs.lemmas.List.{get_or-set_other, length-set}
use Rattle.std.proofs.lemmas.Nat.Bits.{bit_at-zero, bit_at-trailing_zeros, bit_at_set_same, bit_at_set_other, bit_at_clear_same, bit_at_clear_other}
use Rattle.us_calendar.specs.Agendas.{is_near, IsBitChanged, IsFirst, IsFirstWord, IsLowest, NoneBefore}

-- the word of a place in a round
abbrev pub word_at : ℕ → ℕ → ℕ
word_at round place = place / 64 * 64 + round % 64

unset : (words : List ℕ) (round place : ℕ) → get_or words (word_at round place) 0 ≡ 0 → is_near words round place ≡ false
unset words round place none =
    ne_eqb (bit_at (get_or words (word_at round place) 0) (place % 64)) 1 (λ e.
    let zero = ap (λ n. bit_at n (place % 64)) none ∙ bit_at-zero (place % 64) in omega (arith, zero, e))

-- one word is changed at one bit
module _ (words : List ℕ) (round place value bit : ℕ) (inside : word_at round place < length words)
    (here : bit_at value (place % 64) ≡ bit)
    (others : (other : ℕ) → other < 64 → other ≢ place % 64 → bit_at value other ≡ bit_at (get_or words (word_at round place) 0) other) where
  abbrev after : List ℕ
  after = set words (word_at round place) value

  same_words : (other : ℕ) → other % 64 ≡ round % 64 → word_at other place ≡ word_at round place
  same_words other same = omega (arith, same)

  changed_here : (same : ℕ) → same % 64 ≡ round % 64 → is_near after same place ≡ (bit == 1)
  changed_here same is =
      ap (λ n. bit_at n (place % 64) == 1)
      (get_or-set_at words (word_at round place) (word_at same place) value 0 (same_words same is) inside) ∙
      ap (λ b. b == 1) here

  changed_others : (other_round other : ℕ) → (other_round % 64 ≡ round % 64 → other ≡ place → ⊥) →
      is_near after other_round other ≡ is_near words other_round other
  changed_others other_round other apart = elim (cases_eq (word_at other_round other) (word_at round place)) [
    | inr elsewhere ↦
        ap (λ n. bit_at n (other % 64) == 1)
        (get_or-set_other words (word_at round place) (word_at other_round other) value 0 elsewhere)
    | inl same ↦
        let same_round : other_round % 64 ≡ round % 64 = omega (arith, same) in
        let same_part : other / 64 ≡ place / 64 = omega (arith, same) in
        ap (λ n. bit_at n (other % 64) == 1)
        (get_or-set_at words (word_at round place) (word_at other_round other) value 0 same inside) ∙
        ap (λ b. b == 1) (others (other % 64) (omega arith) (λ e. apart same_round (omega (arith, same_part, e))) ∙
        ap (λ w. bit_at (get_or words w 0) (other % 64)) (sym same))
  ]

-- a bit is set
pub bit_set : (words : List ℕ) (round place : ℕ) → word_at round place < length words →
    IsBitChanged words round place true
    (set words (word_at round place) (bit_or (get_or words (word_at round place) 0) (1 * 2 ^ (place % 64) % 2 ^ 64)))
bit_set words round place inside =
    let word : ℕ = get_or words (word_at round place) 0 in
    let value : ℕ = bit_or word (1 * 2 ^ (place % 64) % 2 ^ 64) in
    let same : bit_at value (place % 64) ≡ 1 = bit_at_set_same w64 word (place % 64) (omega arith) in
    let others : (other : ℕ) → other < 64 → other ≢ place % 64 → bit_at value other ≡ bit_at word other =
    λ other low apart. bit_at_set_other w64 word (place % 64) (omega arith) other apart in
    record {
      here = changed_here words round place value 1 inside same others;
      others = changed_others words round place value 1 inside same others;
      many = length-set words (word_at round place) value;
    }

-- as the code says it
pub bit_set_at : (old words : List ℕ) (round place at word : ℕ) → words ≡ old → at ≡ word_at round place →
    word ≡ get_or words at word → place < length old → length words % 64 ≡ 0 →
    IsBitChanged old round place true (set words at (bit_or word (1 * 2 ^ (place % 64) % 2 ^ 64)))
bit_set_at old words round place at word same at_is word_is inside whole =
    let long = ap length same in
    let within : at < length words = omega (arith, at_is, inside, long, whole) in
    let is : word ≡ get_or words at 0 = word_is ∙ get_or_default_zero words at word within in
    subst (λ o. IsBitChanged o round place true (set words at (bit_or word (1 * 2 ^ (place % 64) % 2 ^ 64)))) same
    (subst (λ w. IsBitChanged words round place true (set words at (bit_or w (1 * 2 ^ (place % 64) % 2 ^ 64)))) (sym is)
    (subst (λ a. IsBitChanged words round place true
    (set words a (bit_or (get_or words a 0) (1 * 2 ^ (place % 64) % 2 ^ 64)))) (sym at_is)
    (bit_set words round place (omega (arith, within, at_is)))))

-- the first word that isn't 0 has the first place, where none is before `from`
module _ (words : List ℕ) (round from word : ℕ) (none : NoneBefore (is_near words round) from)
    (is : IsFirstWord words (word_at round from) word) where
  from_word : (place : ℕ) → from ≤ place → word_at round place < word → is_near words round place ≡ false
  from_word place low before =
      unset words round place (is.none (word_at round place) (omega (arith, low)) before (omega arith))

  before_word : (place : ℕ) → word_at round place < word → is_near words round place ≡ false
  before_word place before = elim (cases_lt place from) [
    | inl early ↦ none place early
    | inr late ↦ from_word place late before
  ]

  -- its lowest bit is that of the first place, and is cleared
  module _ (bits at : ℕ) (is_word : bits ≡ get_or words word bits) (inside : word < length words) (low : IsLowest bits at) where
    bits_is : bits ≡ get_or words word 0
    bits_is = is_word ∙ get_or_default_zero words word bits inside

    abbrev found : ℕ
    found = word / 64 * 64 + at

    found_word : word_at round found ≡ word
    found_word = let same = is.same in omega (arith, low.inside, same)

    found_bit : found % 64 ≡ at
    found_bit = omega (arith, low.inside)

    before_found : (place : ℕ) → place < found → is_near words round place ≡ false
    before_found place before = elim (cases_lt (word_at round place) word) [
      | inl early ↦ before_word place early
      | inr late ↦
          let here : word_at round place ≡ word = omega (arith, late, before, low.inside, is.same) in
          let lower : place % 64 < at = omega (arith, here, before, low.inside, is.same) in
          ne_eqb (bit_at (get_or words (word_at round place) 0) (place % 64)) 1 (λ e.
          let zero = ap (λ w. bit_at (get_or words w 0) (place % 64)) here ∙ ap (λ b. bit_at b (place % 64)) (sym bits_is) ∙
          low.below (place % 64) lower in
          omega (arith, zero, e))
    ]

    pub first_found : IsFirst (is_near words round) found
    first_found = record {
      there = eq-eqb (bit_at (get_or words (word_at round found) 0) (found % 64)) 1
          (ap (λ w. bit_at (get_or words w 0) (found % 64)) found_word ∙ ap (λ b. bit_at b (found % 64)) (sym bits_is) ∙
          ap (bit_at bits) found_bit ∙ low.set);
      before = before_found;
    }

    pub first_cleared : IsBitChanged words round found false
        (set words word (bit_and bits (18446744073709551615 - 1 * 2 ^ at % 2 ^ 64)))
    first_cleared =
        let value : ℕ = bit_and bits (18446744073709551615 - 1 * 2 ^ at % 2 ^ 64) in
        let cleared : bit_at value (found % 64) ≡ 0 = ap (bit_at value) found_bit ∙ bit_at_clear_same w64 bits at low.inside in
        let others : (other : ℕ) → other < 64 → other ≢ found % 64 →
        bit_at value other ≡ bit_at (get_or words (word_at round found) 0) other =
        λ other few apart. bit_at_clear_other w64 bits at low.inside other few (λ e. apart (e ∙ sym found_bit)) ∙
        ap (λ b. bit_at b other) bits_is ∙ ap (λ w. bit_at (get_or words w 0) other) (sym found_word) in
        let there : word_at round found < length words = omega (arith, inside, found_word) in
        subst (λ w. IsBitChanged words round found false (set words w value)) found_word (record {
          here = changed_here words round found value 0 there cleared others;
          others = changed_others words round found value 0 there cleared others;
          many = length-set words (word_at round found) value;
        })

pub is_lowest : (bits : ℕ) → 0 < bits → bits < 2 ^ 64 → IsLowest bits (trailing_zeros w64 bits)
is_lowest bits some fits =
    let is = bit_at-trailing_zeros w64 bits some fits in
    record { inside = is.0; set = is.1; below = is.2 }
