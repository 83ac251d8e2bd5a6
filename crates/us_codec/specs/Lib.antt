-- Read in this order: elements and bodies, which are the grammar; the first fault, and answers that have it; maps files;
-- laws.
-- In a definition `≡` is equals, `≢` differs from, `×` and, `→` implies, `++` one list behind another, `∷` one item
-- before a list, and ℕ has the whole numbers from 0. `to_be_bytes` and `from_be_bytes` are big-endian.

-- MAP elements, and the 32 bits of one
pub mod Elements
-- MAP bodies, and the bytes of one
pub mod Bodies
-- the first fault of bytes, or of the parts that a MAP is built of
pub mod Faults
-- answers, but for want of memory
pub mod Answers
-- maps files: records, one behind another
pub mod MapsFiles
-- where these stand in bytes
pub mod Records
-- that no bytes have two readings
pub mod Laws
-- the code of a fault
pub mod Codes
-- the definitions at small inputs
pub mod Examples
-- what a draft asks of its next element
pub mod Drafts
