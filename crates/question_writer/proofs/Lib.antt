-- the file's bytes counted, and put
pub mod Measuring
pub mod Putting
