-- What the code that lists goes by.
pub mod Rendering
