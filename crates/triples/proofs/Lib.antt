-- words and nodes
pub mod Words
-- the triple of a node
pub mod Triples
pub mod Codes
pub mod NodePaths
-- a path written out
pub mod Writing
pub mod Expanding
-- paths compared
pub mod Comparing
-- parts that grow
pub mod Growing
