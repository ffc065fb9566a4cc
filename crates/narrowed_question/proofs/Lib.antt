-- the reader's loop
pub mod Comparing
pub mod Moves
pub mod Tracks
pub mod ArraysFilled
pub mod Loop
-- written and read, read and written
pub mod MembersAhead
pub mod ReadThenWritten
pub mod WrittenThenRead
-- the members of theory
pub mod Formed
pub mod Paths
pub mod MembersInArrays
pub mod Cases
