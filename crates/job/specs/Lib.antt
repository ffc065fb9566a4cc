pub mod Call
pub mod Contract
pub mod Internal
