-- What a kind has, and numbers between two bounds.
pub mod Between
pub mod KindBytes
