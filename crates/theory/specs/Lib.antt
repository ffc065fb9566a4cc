-- general: lists, a value or a refusal, transitive closure, kind sets
pub mod Lists
pub mod Result
pub mod TransitiveClosure
pub mod KindSet
-- paths and their meaning
pub mod PathExpr
pub mod Postfix
pub mod Register
pub mod Simplification
-- sheets, the rules of inference, and the triples that are computed
pub mod Sheet
pub mod Derivation
pub mod Inference
-- narrowing and answers
pub mod Merging
pub mod JoinSets
pub mod Narrowing
pub mod Evaluation
pub mod Words
-- what is promised
pub mod Demand3
pub mod NoIdle
