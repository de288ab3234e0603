-- Looking entries up, judging, and the verdict, in the order of document 01.
pub mod Lookup
pub mod Conditions
pub mod Asking
pub mod EntryTests
pub mod Verdict
pub mod Overflow
pub mod Laws
