-- the call
pub mod Call
-- what is promised of it
pub mod Shortens
-- what the code computes on the way
pub mod Pass
