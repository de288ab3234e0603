-- The state as bytes.
pub mod State
pub mod Laws
