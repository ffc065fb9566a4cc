-- symbols in two arrays
pub mod Symbols
-- members, one after the other
pub mod Counting
-- and their file written
pub mod Filling
