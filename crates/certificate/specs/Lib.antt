-- The definitions of reading, in the order of document 01.
pub mod Octets
pub mod Loops
pub mod Checks
pub mod Layout
pub mod Records
pub mod Reading
pub mod Facts
pub mod Due
pub mod Fields
pub mod Entries
pub mod Laws
