-- how many numbers pass a test
pub mod Amounts
-- the closure of the numbers below n, and induction along it
pub mod Paths
-- one row that grows to the closure's
pub mod Rows
-- rows that are finished one after another
pub mod Stages
-- the walk over the rows
pub mod Trails
