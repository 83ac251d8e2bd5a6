-- Read in this order: time, burst cost, small inputs computed, capacity; then the rest.
-- In a definition `≡` is equals, `×` and, `⊎` or, `→` implies, `¬` not, and ℕ has the whole numbers from 0.

-- ticks, minislots and symbols
pub mod Times
-- interval usage codes (IUC)
pub mod UsageCodes
-- what a burst of some bytes costs
pub mod Bursts
-- the definitions at small inputs
pub mod Examples
-- what some minislots carry
pub mod Capacities
-- what follows of them for data grants
pub mod Laws
-- the jitter window
pub mod Windows
-- sums and firsts of lists
pub mod Lists
-- when a reader or a writer counts as failed
pub mod Devices
