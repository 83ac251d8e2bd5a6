pub mod VerdictLaws
pub mod AmongLemmas
pub mod BurstLaws
pub mod NamedLaws
pub mod MovedLaws
pub mod JudgeLemmas
pub mod ReadingLemmas
