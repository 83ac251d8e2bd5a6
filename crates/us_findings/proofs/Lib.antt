-- the first of the errors that are found
pub mod FoundLemmas
-- what reading a text answers, as what a lint of it answers
pub mod LintLemmas
-- lines and columns, byte by byte
pub mod LineLemmas
