pub mod SumLemmas
pub mod TallyLemmas
pub mod AccountLemmas
pub mod StepLemmas
pub mod SeatLemmas
pub mod CutLemmas
pub mod TableLemmas
pub mod LawLemmas
