-- What crosses to C: the parts of an answer's number, states of other lengths, queues as bytes; and what certificates that differ only in ranks answer.
pub mod Words
pub mod Crossing
pub mod Ranks
