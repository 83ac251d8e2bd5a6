pub mod RoundingLemmas
pub mod WindowLemmas
pub mod CodeLemmas
pub mod CostLemmas
pub mod CapacityLemmas
pub mod CostLaws
pub mod DeviceLemmas
