-- The laws of the state, of queries, of writing and of calls that follow one another.
pub mod Holding
pub mod Copying
pub mod Writings
pub mod Lookups
pub mod Following
pub mod RoundTrip
pub mod Loads
pub mod Held
