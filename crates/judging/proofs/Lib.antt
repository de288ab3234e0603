-- The laws of the verdict, from one test up to the whole.
pub mod Deciding
pub mod Looping
pub mod Entries
pub mod Screens
pub mod Counting
pub mod Stages
pub mod Outcome
pub mod Asking
pub mod EntryOutcomes
pub mod Verdicts
pub mod Overflows
pub mod PlaceBounds
