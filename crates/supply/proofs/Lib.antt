-- The least of some numbers, the two least, and the first index of which a test holds.
pub mod LeastNumbers
pub mod OneTurnMore
pub mod TwoLeast
