-- Read in this order: requests and what they ask; the text of a trace; what is known of a trace that was read.
-- In a definition `≡` is equals, `×` and, `⊎` or, `∷` one item before a list, and ℕ has the whole numbers from 0.

-- which requests are asks, and in which round
pub mod Asks
-- what is asked for in a round by each word: sums over the requests, in whatever order they stand
pub mod Cuts
-- the records of a text, as `csv` splits it, their first fault, and the requests that they tell
pub mod Texts
-- what a trace says, as its readers see it
pub mod Traces
-- what reading a trace answers
pub mod Readings
-- the code of a fault
pub mod Codes
-- inside the crate: which records a reader has left
pub mod Records
-- inside the crate: what becomes of a request, and what it adds
pub mod Outcomes
-- inside the crate: asks in one list, and where those of a round stand
pub mod Spans
-- small inputs, computed
pub mod Examples
