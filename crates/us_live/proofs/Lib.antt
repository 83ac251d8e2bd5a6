pub mod ScheduleLemmas
pub mod LogLemmas
pub mod LiveLemmas
pub mod SendLemmas
