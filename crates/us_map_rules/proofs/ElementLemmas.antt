-- Elements as bytes.
use Rattle.std.proofs.Common.{◌≡◌, ℕ, ◌<◌, ◌≤◌, List, [], ◌∷◌, length, get_or, drop, refl, arith}
use Rattle.std.specs.Int.{from_be_bytes, w32}
use Rattle.us_codec.specs.Elements.{element_of}
use Rattle.us_codec.specs.Faults.{elements_at}

-- none, of too few bytes,
pub none_at : (bytes : List ℕ) → length bytes < 4 → elements_at bytes ≡ []
unfolding elements_at
none_at [] short = refl
none_at (a ∷ []) short = refl
none_at (a ∷ b ∷ []) short = refl
none_at (a ∷ b ∷ c ∷ []) short = refl
none_at (a ∷ b ∷ c ∷ d ∷ more) short = absurd (omega (arith, short))

-- or the first, and those behind it
abbrev pub first_word : List ℕ → ℕ
first_word bytes = from_be_bytes w32 (get_or bytes 0 0 ∷ get_or bytes 1 0 ∷ get_or bytes 2 0 ∷ get_or bytes 3 0 ∷ [])

pub one_at : (bytes : List ℕ) → 4 ≤ length bytes → elements_at bytes ≡ element_of (first_word bytes) ∷ elements_at (drop 4 bytes)
unfolding elements_at
one_at [] long = absurd (omega (arith, long))
one_at (a ∷ []) long = absurd (omega (arith, long))
one_at (a ∷ b ∷ []) long = absurd (omega (arith, long))
one_at (a ∷ b ∷ c ∷ []) long = absurd (omega (arith, long))
one_at (a ∷ b ∷ c ∷ d ∷ more) long = refl
