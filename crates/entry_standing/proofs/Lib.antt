-- The edges of a cell beside limits.
pub mod EdgeLimits
