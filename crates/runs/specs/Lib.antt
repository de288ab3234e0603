-- Exact fractions, runs, goals, and the run claim, in the order of document 01.
pub mod Fractions
pub mod Runs
pub mod Goals
pub mod Claim
pub mod Laws
