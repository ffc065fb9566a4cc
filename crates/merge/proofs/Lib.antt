-- elements of an array
pub mod Segments
-- codes compared
pub mod Comparing
-- nodes sorted
pub mod Sorting
-- members of the sorted nodes
pub mod Merging
