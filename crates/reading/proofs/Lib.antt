-- The stages of reading, put together.
pub mod Stages
pub mod Whole
