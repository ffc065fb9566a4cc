-- tables of equal pairs
pub mod Tables
-- a register's file in rows
pub mod Grounds
-- a word of kinds
pub mod KindBits
-- relations in the work words
pub mod Relations
-- one pass over the links
pub mod Links
-- joins through records that pass
pub mod Joins
-- one symbol
pub mod Applying
-- all symbols
pub mod SymbolLoop
-- symbols in a part of two arrays
pub mod Slices
