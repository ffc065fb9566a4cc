-- the work words of both halves
pub mod Needs
-- the file, read back
pub mod ReadBack
-- 16 among the other refusals, and the results
pub mod Results
-- 14, 15 and the files
pub mod WholeCall
-- for the contract and for other crates: what an accepted job says
pub mod Accepted
