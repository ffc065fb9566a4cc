-- the pass over the codes
pub mod Contexts
pub mod Pending
pub mod Pass
-- the call
pub mod Call
pub mod Cases
-- what is promised of it
pub mod Shortens
