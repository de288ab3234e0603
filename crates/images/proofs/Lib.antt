-- The ends of an image, link by link, are those of the definition by corners.
pub mod Arriving
pub mod Caps
pub mod Corners
pub mod Outward
pub mod PassingOn
pub mod EndsLinkByLink
