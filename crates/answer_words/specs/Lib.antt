-- How answers and queues cross to C.
pub mod Words
pub mod Laws
