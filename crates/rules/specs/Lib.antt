pub mod PairRules
pub mod Outcome
pub mod Requirements
pub mod Repeated
pub mod EdgeTriples
pub mod StepTriples
