-- The text of a listing, in the order of document 01, and what is proved of it.
pub mod Text
pub mod Lines
pub mod Listing
pub mod Laws
