pub mod Kinds
pub mod Sizes
