-- The laws of polls of a state.
pub mod Answers
pub mod Following
pub mod Ranks
