-- Laws of the records of links, for the proofs of the functions that read them.
pub mod LinkRecords
