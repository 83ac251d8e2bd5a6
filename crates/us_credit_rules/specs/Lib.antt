-- Read in this order: the clusters that lines name; what they ask for and are credited, and what is left in buckets; which
-- line of a request isn't right; what all these come to; which F lines and A lines aren't right; and what is kept of all lines.
-- In a definition `≡` is equals, `×` and, `→` implies, `∷` one item before a list, `++` one list behind another, and ℕ
-- has the whole numbers from 0; `-` stops at 0.

-- clusters that lines name
pub mod Seats
-- the first round that lacks something
pub mod Shorts
-- what clusters ask for and are credited, told line by line
pub mod Ledgers
-- and what is left in the buckets of flows
pub mod Buckets
-- lines of requests that aren't right
pub mod Repeats
-- all this together
pub mod Requests
-- the first of places, and those behind the last round
pub mod Ends
-- what lines tell of things there
pub mod Tellings
-- F lines that aren't right
pub mod LastLines
-- and A lines
pub mod Activities
-- all lines
pub mod CreditLines
