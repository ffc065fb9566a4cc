pub mod Arrays
pub mod Arranging
pub mod Runs
