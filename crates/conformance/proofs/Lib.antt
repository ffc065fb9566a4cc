-- the search for the first failing element, over the kinds and over the links
pub mod Search
pub mod KindSearch
pub mod LinkSearch
-- the check as a whole
pub mod Checked
