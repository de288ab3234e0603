-- What the code that judges entry by entry goes by.
pub mod Entries
