-- The lines of a listing, from their parts.
pub mod LineParts
