-- Fronts of lines (ours): what G lines of one round and channel begin with, and what is remembered of it.
use Rattle.std.specs.Prelude.{◌≡◌, ℕ, ◌^◌, ◌<◌, ◌≤◌, List, [], ◌∷◌, ◌++◌, take, drop, codes, Option, Some, None}
use Rattle.std.specs.Int.{w64, to_le_bytes}
use Rattle.us_output.specs.declared.rows.Row.{Row}
use Rattle.us_output.specs.declared.rows.Row.TheVariants as rows
use Rattle.us_output.specs.Lines.{numbers}
use Rattle.us_reports.specs.declared.report_fronts.Front.{Front}

-- what the G lines of a round and a channel begin with
abbrev pub front_text : ℕ → ℕ → List ℕ
front_text round channel = codes "G" ++ (numbers (round ∷ channel ∷ []) ++ codes ",")

-- the two numbers are the first 8 bytes of a text and its last 8, and no byte is left out
pub record Covers (front : Front) (text : List ℕ) : Type 0 where
  pub near : front.last_at ≤ 8
  pub first : to_le_bytes w64 front.first ≡ take 8 text
  pub last : to_le_bytes w64 front.last ≡ drop front.last_at text

-- what is remembered is the front of this row, whose numbers have 64 bits
abbrev pub Remembers : Option Front → Row → Type 0
Remembers None row = Unit {0}
Remembers (Some front) (rows.Granted grant) =
    (grant.round < 2 ^ 64) × (grant.channel < 2 ^ 64) × Covers front (front_text grant.round grant.channel)
Remembers (Some front) row = ⊥
