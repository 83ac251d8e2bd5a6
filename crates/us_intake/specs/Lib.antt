-- Read in this order: tallies; intakes and seats, and what each call makes of a seat; the account of all seats
-- together; its laws; then small inputs computed. `Parts` and `Insides` are of no public contract.
-- In a definition `≡` is equals, `≢` differs from, `×` and, `⊎` or, `→` implies, `||` or of truth values, `++` one list
-- behind another, `∷` one item before a list, and ℕ has the whole numbers from 0; `-` stops at 0.
-- `slice_index tally cluster` is a cluster's number of bytes, 0 behind the last; `sum` adds up a tally, and `sum_by f`
-- adds up what `f` gives of each item of a list. `range_with_len 0 n` is the list of n numbers from 0 on.

-- bytes by cluster
pub mod Tallies
-- intakes and seats
pub mod Seats
-- the account of all seats of an intake
pub mod Accounts
-- what one step tells of a seat, and how seats and intakes are kept: for the code alone
pub mod Parts
pub mod Insides
-- what holds of every account
pub mod Laws
-- the code of a fault
pub mod Codes
-- the definitions at small inputs
pub mod Examples
