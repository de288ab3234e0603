-- The laws of the flow rule, of the image of a box, and of the tests before 12.
pub mod Sending
pub mod Passing
pub mod Sums
pub mod Rule
pub mod Monotone
pub mod Scale
pub mod Fits
pub mod SmallestBox
pub mod Limiting
pub mod Screening
