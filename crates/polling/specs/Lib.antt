-- What the code finds on the way to a poll's answer.
pub mod FoundPolls
