-- Where a text is written, and what a writer wrote.
pub mod TextPut
pub mod Writing
