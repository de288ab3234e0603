-- What a query finds, from the tests that it passes or fails.
pub mod Answers
