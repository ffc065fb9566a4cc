pub mod Table
pub mod Reading
pub mod Writing
pub mod Raw
pub mod Call
pub mod Contract
pub mod Padded
pub mod Case
