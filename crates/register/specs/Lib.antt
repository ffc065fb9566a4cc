pub mod Form
pub mod Contract
pub mod Internal
pub mod Passed
pub mod LinksAhead
