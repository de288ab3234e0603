-- The links of a poll, tested one after another.
pub mod Levelling
