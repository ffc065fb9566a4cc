-- what the job's outcome and areas say of the text
pub mod Printing
-- what is printed of an accepted job
pub mod Meaning
