-- Read in this order: how a replay ends; replays. Then examples. What a round is, and what it gives, stands with
-- `us_round`; lines, files and the output of a schedule with `us_lawful`.
-- In a definition `≡` is equals, `×` and, `⊎` or, `→` implies, `++` one list behind another, `∷` one item before a list,
-- and ℕ has the whole numbers from 0; `-` stops at 0.

-- how a replay ends: it is done, refused or stopped
pub mod Endings
-- what a replay writes, and what stands after one that ended early
pub mod Replays
-- what its faults are told as
pub mod Faults
-- the definitions at small inputs
pub mod RunExamples
-- inside the crate, and of no use to a reader of the promise: how requests are collected; what a replay keeps from one
-- round to the next
pub mod Collecting
-- what is sent together
pub mod Batches
pub mod Progress
