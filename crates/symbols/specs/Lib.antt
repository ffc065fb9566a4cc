pub mod Symbols
pub mod Writing
pub mod Contract
