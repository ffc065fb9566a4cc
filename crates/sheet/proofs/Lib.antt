-- for other crates: what was accepted is in range, and the table says what is permitted
pub mod Ranges
pub mod Tables
-- the reader's loop, and the cases
pub mod Loop
pub mod Cases
-- what the outcome says of the file
pub mod ReaderOutcome
