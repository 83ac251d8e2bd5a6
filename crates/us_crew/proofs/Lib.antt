pub mod PartLemmas
pub mod PlaceLemmas
pub mod FunctionLemmas
pub mod TaskLemmas
pub mod CuttingLemmas
pub mod SendLemmas
