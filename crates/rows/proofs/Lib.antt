-- writing words, one after the other
pub mod Words
-- the words of an area
pub mod Areas
-- some number below n
pub mod Ranges
-- rows of bits
pub mod Rows
-- the union of a row's words
pub mod Folded
-- the first bit of a row
pub mod Leasts
-- the bits of a word as a list
pub mod BitLists
-- rows made of a test
pub mod Masks
