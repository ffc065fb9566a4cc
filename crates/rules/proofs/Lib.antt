-- two lists under an operator
pub mod TwoLists
-- paths of up to 48 symbols
pub mod Short
-- a part that grows
pub mod Grows
pub mod Ranging
-- a matrix of kinds
pub mod Between
pub mod Edges
-- pairs
pub mod Pairs
pub mod Rows
pub mod Repeating
-- the rules
pub mod RuleOutcome
pub mod PairRule
pub mod Copies
pub mod Unions
pub mod Steps
pub mod SheetSteps
