pub mod DumpLemmas
pub mod MarkLemmas
pub mod PrintoutLemmas
