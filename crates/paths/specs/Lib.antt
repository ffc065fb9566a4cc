pub mod Agreement
pub mod Shortening
pub mod OutcomeNumbers
