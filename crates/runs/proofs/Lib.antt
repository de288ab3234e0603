-- From fractions and steps to the run claim.
pub mod Fractions
pub mod Cells
pub mod Lookup
pub mod Steps
pub mod Moments
pub mod Turning
pub mod RunClaim
pub mod TurnedAway
pub mod AllRuns
