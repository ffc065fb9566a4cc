-- the file, the table that is handed on
pub mod Form
pub mod Table
-- what the code says of them, and cases
pub mod Contract
pub mod Internal
