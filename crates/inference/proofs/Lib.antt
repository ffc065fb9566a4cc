-- one symbol
pub mod Codes
pub mod Originals
-- the stack of parts
pub mod Stacks
-- the loop
pub mod Turning
pub mod Running
-- for callers
pub mod Accepted
-- a result whose error was mapped
pub mod Told
