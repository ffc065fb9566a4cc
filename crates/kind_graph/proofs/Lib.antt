-- the graph of a part's kinds
pub mod Linking
-- a graph of more kinds than the triples have
pub mod WiderGraph
-- the largest walks
pub mod LongestWalks
pub mod Rounds
