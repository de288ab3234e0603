-- The parts of an answer's number, and the queues in bytes.
pub mod Parts
pub mod Queuing
