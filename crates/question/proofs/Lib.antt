pub mod Loop
pub mod Paths
pub mod Cases
-- written and read, read and written
pub mod ReadThenWritten
pub mod WrittenThenRead
-- what the outcome says of the file
pub mod ReaderOutcome
