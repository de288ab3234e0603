-- What the code of conditions 10 and 11 goes by.
pub mod NetworkParts
