pub mod Finishing
pub mod Standing
