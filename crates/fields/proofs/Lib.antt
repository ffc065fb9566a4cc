-- tests, the table, the field at a place
pub mod Bools
pub mod Rows
pub mod Raws
pub mod Fields
-- fields as bytes, both ways
pub mod Bytes
pub mod Lies
-- the frame of a call, a file in a lent area
pub mod Calls
pub mod Filing
-- reading: the loop, and induction over an accepted file
pub mod ReaderLoop
pub mod Accepted
-- arrays
pub mod Padded
