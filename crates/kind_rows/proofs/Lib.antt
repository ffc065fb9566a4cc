-- the table, and the records of a set of kinds
pub mod Tables
