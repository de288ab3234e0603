-- Intervals, cells, the image of a cell and its successors, in the order of document 01.
pub mod Intervals
pub mod Cells
pub mod Successors
pub mod Laws
