-- Read in this order: what a bucket holds; what may be credited or is reserved, where no bucket is mentioned; that these
-- are one.
-- In a definition `≡` is equals, `×` and, `→` implies, `↔` both ways, `∷` one item before a list, and ℕ has the whole
-- numbers from 0.

-- what a bucket holds, and how it is refilled and spent
pub mod Levels
-- a bucket with the round as of which it stands, and its laws
pub mod RoundBuckets
-- the bytes that are credited in each round, and over a span of rounds
pub mod Spans
-- the bound over every span of rounds, and the greatest number of bytes that keeps it
pub mod Allowances
-- the laws of the bucket
pub mod Laws
-- the definitions at small inputs
pub mod Examples
