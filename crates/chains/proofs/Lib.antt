-- the path of a chain's symbols
pub mod Symbols
-- steps that are held
pub mod Holding
-- rows that take in more
pub mod Gains
-- routes over relations
pub mod Routes
-- the route of a chain
pub mod Laying
