-- the triples that meet no cyclic kind
pub mod Acyclic
-- their walks
pub mod Growing
-- closures that are kept
pub mod Keeping
-- the rule
pub mod RulePieces
