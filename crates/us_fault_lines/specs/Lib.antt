-- In a definition `≡` is equals and `++` one list behind another, and ℕ has the whole numbers from 0. `codes` has the bytes
-- of a text, `decimal` those of a number.

-- fault lines
pub mod Lines
