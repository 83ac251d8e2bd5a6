-- MAP elements (the standard's): who may send what, from which minislot on.
use Rattle.std.specs.Prelude.{ℕ, ◌+◌, ◌*◌, ◌/◌, ◌%◌, ◌^◌, ◌<◌}
use Rattle.us_slots.specs.UsageCodes as codes

pub record MapElement : Type 0 where
  pub sid : ℕ
  pub iuc : ℕ
  -- minislots from the start of the MAP
  pub offset : ℕ

-- the fields keep to their bits: 14, 4 and 14
pub record IsMapElement (e : MapElement) : Type 0 where
  pub sid : e.sid < 2 ^ 14
  pub iuc : codes.IsUsageCode e.iuc
  pub offset : e.offset < 2 ^ 14

-- an element as a number of 32 bits, most significant first: SID, IUC, offset
unfoldable pub word_of : MapElement → ℕ
word_of e = e.sid * 2 ^ 18 + e.iuc * 2 ^ 14 + e.offset

-- the element of such a number
unfoldable pub element_of : ℕ → MapElement
element_of word = record { sid = word / 2 ^ 18; iuc = word / 2 ^ 14 % 2 ^ 4; offset = word % 2 ^ 14 }

-- the Null, which ends the list at the MAP's length
abbrev pub null_at : ℕ → MapElement
null_at len = record { sid = 0; iuc = codes.null; offset = len }
