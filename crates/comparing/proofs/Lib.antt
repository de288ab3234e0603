-- What the proofs of a comparison share.
pub mod Parts
pub mod Walking
