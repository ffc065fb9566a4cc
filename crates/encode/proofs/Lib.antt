-- one writing after another
pub mod Along
-- bytes of a number, copied
pub mod Bytes
-- what the bytes are made of
pub mod Parts
-- the two loops
pub mod Symbols
pub mod Members
