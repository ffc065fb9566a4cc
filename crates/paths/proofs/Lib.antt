-- demand 3 of the calls
pub mod Agreement
-- a shortened question answered
pub mod Shortening
-- what C is told
pub mod OutcomeNumbers
-- how a file is judged
pub mod Judging
-- a law that docs/ name
pub mod Named
