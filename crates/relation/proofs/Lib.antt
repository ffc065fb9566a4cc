-- relations made row by row
pub mod Making
-- rows combined with other rows
pub mod Combining
-- rows with no bit of n or more
pub mod Clean
-- one row written, one pair more
pub mod Pair
-- joins
pub mod Joining
-- branches
pub mod Branches
