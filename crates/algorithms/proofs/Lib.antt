pub mod Growth
pub mod Sorting
