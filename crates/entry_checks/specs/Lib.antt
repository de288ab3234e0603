-- What the tests of entries go by.
pub mod Keys
