-- Read in this order: what a fault prints and the status that it gives; the mark in the input; MAPs as lines; what is
-- printed of standard input.
-- In a definition `≡` is equals, `×` and, `⊎` or, `¬` not, `++` one list behind another, `∷` one item before a list,
-- and ℕ has the whole numbers from 0. `codes` has the bytes of a text, `decimal` those of a number.

-- words with spaces between
pub mod Texts
-- fault lines
pub mod Lines
-- exit statuses
pub mod Statuses
-- the line between the configuration and the trace
pub mod Marks
-- the line of an element
pub mod MapLines
-- MAPs as text
pub mod Dumps
-- what is printed of standard input
pub mod Printouts
-- the definitions at small inputs
pub mod Examples
