-- what words mark flows as silent
pub mod WordLemmas
-- the marks that asks are
pub mod MarkLemmas
-- marks tell what cuts tell
pub mod ActivityLemmas
-- marks that are sorted are in order
pub mod OrderLemmas
-- the last mark up to a round
pub mod SearchLemmas
