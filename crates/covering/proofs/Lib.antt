-- The order that covering is, what agrees before the first entry, and the answers of a comparison.
pub mod Fields
pub mod Fronts
pub mod Order
pub mod Begins
pub mod Answers
