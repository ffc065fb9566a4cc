pub mod Turns
pub mod Questions
