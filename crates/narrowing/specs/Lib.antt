pub mod Call
pub mod Beforehand
pub mod Contract
pub mod Internal
