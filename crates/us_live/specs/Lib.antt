-- Read in this order: what a Live is, and what a round makes of it; what a fault leaves; the laws; then small inputs
-- computed. `Insides` is of no public contract.
-- In a definition `≡` is equals, `×` and, `⊎` or, `→` implies, `(x : A) ×` for some x, `++` one list behind another, and
-- ℕ has the whole numbers from 0. `slice_index tally cluster` is a word's number of bytes, 0 behind the last; `sum_by
-- f` adds up what `f` gives of each item of a list; an `Option` is `Some` of a value, or `None`.

-- what a Live is, and the seat that it cuts by
pub mod Lives
-- what it leaves where no round was made
pub mod Leaves
-- what its faults are told as
pub mod Faults
-- laws of the log
pub mod Laws
-- the definitions at small inputs
pub mod Examples
-- how a Live is kept: for the code alone
pub mod Insides
