pub mod ArrayMembers
pub mod Form
pub mod Writing
pub mod Formed
pub mod Members
pub mod Contract
pub mod Internal
