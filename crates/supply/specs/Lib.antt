-- What the code of supplies goes by.
pub mod Supply
