-- What the code that reads turns goes by.
pub mod ShareTotals
