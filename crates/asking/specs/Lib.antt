-- What the code finds on the way to a query's answer.
pub mod FoundEntries
