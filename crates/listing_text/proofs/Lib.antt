-- Numerals, their digits, the lengths of lines, their words, and the whole.
pub mod Numerals
pub mod Digits
pub mod LineLengths
pub mod Wording
pub mod Listings
