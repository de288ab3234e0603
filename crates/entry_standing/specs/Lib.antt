-- What the standing of an entry goes by.
pub mod Standing
