-- 11
pub mod Links
-- from the nodes of a part to the size of its file, and to the file
pub mod Filing
-- 12 and 13, 11, and what was counted in the area
pub mod Inferring
-- the files, 15, all but the file
pub mod FromReaders
pub mod WholeCalls
-- for other crates: what an accepted call says
pub mod Accepted
-- what the size says of narrowing
pub mod Beforehand
