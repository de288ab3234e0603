-- Pairs of entries as keys that ascend.
pub mod EntryPairs
