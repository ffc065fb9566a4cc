pub mod Grounded
pub mod Standing
pub mod Stack
