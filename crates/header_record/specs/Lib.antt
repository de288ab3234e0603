-- The kinds of certificates, as the code has them.
pub mod Kinds
