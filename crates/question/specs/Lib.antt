pub mod Form
pub mod Writing
pub mod Contract
pub mod Internal
