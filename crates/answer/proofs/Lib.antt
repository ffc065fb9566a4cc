-- the words of the areas
pub mod Areas
-- one member, all members
pub mod Masked
pub mod Adding
-- what the files hold
pub mod Files
-- the outcome
pub mod Answered
pub mod WholeCalls
-- what the answers mean
pub mod Meaning
pub mod TwoAnswers
pub mod SamePairs
