-- What the street cabinet's calls find and answer.
pub mod Calls
pub mod Laws
