-- How a call's contract follows from what the call did.
pub mod Answering
