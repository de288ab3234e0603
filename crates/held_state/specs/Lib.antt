-- The calls on a state that is lent as bytes.
pub mod Held
pub mod Laws
