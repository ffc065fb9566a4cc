-- general: tests, lists, kind sets, transitive closure
pub mod Tests
pub mod Lists
pub mod Distinct
pub mod KindSet
pub mod TransitiveClosure
-- the rules, and the triples that are computed
pub mod Sheet
pub mod Labels
pub mod Rules
pub mod Triples
pub mod Reach
pub mod Walks
pub mod ClosureRule
pub mod KindsOfSheet
pub mod Ends
pub mod Inference
-- the meaning of a question and of its triples
pub mod Soundness
pub mod Completeness
pub mod Universal
pub mod Evaluation
-- questions shortened
pub mod Inclusion
pub mod Simplification
-- members
pub mod Postfix
pub mod Merging
pub mod Order
pub mod TriplePaths
pub mod JoinSets
pub mod FirstFailing
pub mod Conformance
pub mod Refusals
pub mod Narrowing
pub mod Grounded
pub mod Judgement
pub mod Members
-- demand 3
pub mod Words
pub mod Demand3
pub mod NoIdle
pub mod Answers
