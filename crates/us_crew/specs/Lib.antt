-- Read in this order: what a call asks of its items; what it answers where all goes well; what where it doesn't.
-- In a definition `≡` is equals, `<` compares, `×` is and, `⊎` or, `→` implies, `¬` not, `∷` one item before a list,
-- and ℕ has the whole numbers from 0, by which items are numbered.

-- the condition of the items
pub mod Items
-- the value of each item, in the order of the items
pub mod Values
-- the first item that has a fault
pub mod Faults
-- the code of a fault
pub mod Codes
-- the definitions at small inputs
pub mod Examples
-- inside the crate, and of no use to a reader of the promise: the same of some of the items
pub mod Parts
-- inside the crate too: how many items each worker gets,
pub mod Cutting
-- what goes through the ring of one task,
pub mod Rings
-- a task,
pub mod Tasks
-- and a task on its way
pub mod Orders
