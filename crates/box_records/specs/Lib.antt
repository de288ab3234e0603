-- What the code that reads grids goes by.
pub mod GridRecords
