-- The mark between the configuration and the trace (ours): a line of two percent signs and a line feed.
use Rattle.std.specs.Prelude.{◌≡◌, ◌⊎◌, ℕ, ◌-◌, ◌+◌, ◌<◌, List, ◌∷◌, [], take, drop, slice_index}

-- a line begins at this place of a text: at its start, or behind a line feed
abbrev pub StartsLine : List ℕ → ℕ → Type 0
StartsLine text at = (at ≡ 0) ⊎ (slice_index text (at - 1) ≡ 10)

-- the line is the mark
pub record IsMark (text : List ℕ) (at : ℕ) : Type 0 where
  pub line : StartsLine text at
  pub bytes : take 3 (drop at text) ≡ 37 ∷ 37 ∷ 10 ∷ []

-- what stands before the first mark of a text, and what stands behind it
pub record IsSplit (text before after : List ℕ) : Type 0 where
  pub at : ℕ
  pub mark : IsMark text at
  pub first : (earlier : ℕ) → earlier < at → ¬ IsMark text earlier
  pub before_it : before ≡ take at text
  pub after_it : after ≡ drop (at + 3) text
