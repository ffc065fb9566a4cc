-- a symbol's field, and its number
pub mod Symbols
pub mod InPath
pub mod Numbers
pub mod Bytes
-- symbols that make a path
pub mod Counting
