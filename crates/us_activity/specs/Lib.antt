-- Read in this order: what marks tell; whose they are; then, of no use to a reader of the promise, how they are kept.
-- In a definition `≡` is equals, `≤` and `<` compare, `×` is and, `⊎` or, `→` implies, `∷` one item before a list, and ℕ has
-- the whole numbers from 0.

-- marks, and who is active by them
pub mod Marks
-- the marks of a trace tell what its cuts tell
pub mod Activities
-- the definitions at small inputs
pub mod Examples
-- inside the crate: where marks come from, and in which order they stand
pub mod Kept
