-- Tests by cases, outcomes of tests, copying, searches and tests over a range, tables filled entry by entry, products that fit, and values
-- picked by a test.
pub mod Cases
pub mod Copying
pub mod FilledTables
pub mod Finding
pub mod Fitting
pub mod Outcomes
pub mod Picking
pub mod Ranges
