-- Read in this order: what a run is, and what texts give; what a caller is answered; which of two texts has errors.
-- In a definition `≡` is equals, `×` and, `⊎` or, `→` implies, `++` one list behind another, and ℕ has the whole numbers
-- from 0.

-- runs, and by which faults they are refused
pub mod Runs
-- statuses, and what is copied to a caller
pub mod Calls
-- which of two texts has errors
pub mod Lints
-- inside the crate, and of no use to a reader of the promise: what a hand owns
pub mod Hands
