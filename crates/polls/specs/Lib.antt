-- The poll of a state (document 02, request 1).
pub mod Poll
pub mod Laws
