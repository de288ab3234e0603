-- What the call that lists answers, from its parts.
pub mod Sending
