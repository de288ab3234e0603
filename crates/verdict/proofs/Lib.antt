-- Judging entry by entry, and the verdict from its parts.
pub mod Chaining
pub mod VerdictCases
