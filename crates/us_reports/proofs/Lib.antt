pub mod OrderLemmas
pub mod BreachLemmas
pub mod AnyLemmas
pub mod ReportReaderLemmas
pub mod ReportPlaceLemmas
pub mod ReportLineLemmas
pub mod FrontLemmas
pub mod ReportLemmas
