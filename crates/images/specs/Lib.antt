-- What the code of the image goes by.
pub mod Ends
