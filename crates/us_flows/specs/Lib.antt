-- Read in this order: the tables; clusters and turns, which follow of them, with their laws; ranges, and what holds of all
-- accepted tables; then how a document is judged: its keys, its values, the shape of a table, what is read, the faults in
-- order, the answer.
-- In a definition `≡` is equals, `≢` differs from, `≤` and `<` compare, `×` is and, `⊎` or, `→` implies, `∷` one item
-- before a list, `++` one list behind another, and ℕ has the whole numbers from 0.

-- the tables of a configuration, as values
pub mod Tables
-- SID clusters, words, which SID is whose, and the order of turns
pub mod Clusters
-- turns as places in the tables
pub mod Turns
-- laws of turns and of words
pub mod Laws
-- the least and the greatest of what a configuration may say
pub mod Ranges
-- what holds of all tables that are accepted
pub mod Lawful
-- the keys of each table, and the rules of their values
pub mod Keys
-- values of a document, by their keys
pub mod Documents
-- the shape of one table
pub mod Shapes
-- the tables that a document writes
pub mod Reading
-- the faults of a document, in order
pub mod Checks
-- what is answered
pub mod Answers
-- the definitions at small inputs
pub mod Examples
-- the code of a fault, and the table that it names
pub mod Codes
pub mod Places
-- what faults are told as
pub mod Texts
-- inside the crate, and of no use to a reader of the promise: what a walk over a flow's table
-- finds, what an index of SIDs holds, and what turns are sorted by
pub mod KeyValues
pub mod Listed
pub mod Ranks
