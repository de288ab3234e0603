-- The state, and what load, query and write do to it, in the order of document 01.
pub mod Limits
pub mod State
pub mod Query
pub mod Write
pub mod Laws
pub mod Parts
