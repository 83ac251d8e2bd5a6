-- Read in this order: boards; how an assignment is placed; runs; what every board keeps; the law; then small inputs
-- computed.
-- In a definition `≡` is equals, `×` and, `→` implies, `++` one list behind another, `∷` one item before a list, and ℕ
-- has the whole numbers from 0; `-` stops at 0.

-- who holds each minislot of a MAP
pub mod Boards
-- where an assignment is placed, and what stands then
pub mod Placements
-- the minislots of a board as runs
pub mod Runs
-- what every board keeps
pub mod Kept
-- the law of what was assigned, and of the runs
pub mod Laws
-- the definitions at small inputs
pub mod Examples
-- inside the crate: how a board is kept
pub mod Lists
pub mod ListExamples
