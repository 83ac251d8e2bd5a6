-- Read in this order: where a grant has room beside the reserves, and small examples.
-- In a definition `≡` is equals, `×` and, `→` implies, and ℕ has the whole numbers from 0.

-- where a grant has room in MAPs that have their reserves alone
pub mod Windows
-- the same at small inputs
pub mod Examples
