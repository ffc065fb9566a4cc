pub mod Chain
pub mod Routed
pub mod Walked
