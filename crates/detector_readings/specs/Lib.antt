-- What the code that reads detectors goes by.
pub mod Heights
pub mod Levels
