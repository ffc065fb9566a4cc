pub mod Kept
pub mod Row
pub mod Merged
pub mod BitList
