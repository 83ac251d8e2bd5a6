-- In a definition `≡` is equals, `⊎` is or, ℕ has the whole numbers from 0, and `codes` has the bytes of a text.

-- the names of files and streams, and their faults
pub mod Streams
