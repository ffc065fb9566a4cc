pub mod Check
pub mod Contract
