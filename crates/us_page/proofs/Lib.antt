pub mod RunLemmas
pub mod CallLemmas
pub mod LintLemmas
pub mod LooseSteps
pub mod HandSteps
