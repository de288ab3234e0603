-- What the code that reads modes goes by.
pub mod Placed
