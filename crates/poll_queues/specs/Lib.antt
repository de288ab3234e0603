-- What the code that reads polls goes by.
pub mod PolledLinks
