-- the loop of the reader
pub mod Fields
pub mod Sound
pub mod Loop
pub mod Passing
-- what an accepted file holds, and where
pub mod AcceptedRegister
pub mod ReaderOutcome
pub mod Walk
pub mod Places
pub mod Cases
