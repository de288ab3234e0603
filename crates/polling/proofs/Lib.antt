-- From what the code finds to what a poll answers.
pub mod Answering
