-- A line as the code has it.
pub mod Fields
