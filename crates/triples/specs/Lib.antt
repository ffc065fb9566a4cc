pub mod Table
pub mod Paths
pub mod Tests
pub mod Expansion
pub mod Parts
