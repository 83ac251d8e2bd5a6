pub mod DraftLemmas
pub mod ListLemmas
pub mod WordLemmas
pub mod BodyLemmas
pub mod PutLemmas
pub mod FileLemmas
pub mod ReadingLaws
