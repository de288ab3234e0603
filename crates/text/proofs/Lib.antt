-- Digits, text at a place of a buffer, and texts one after another.
pub mod Placing
pub mod Written
pub mod Digits
