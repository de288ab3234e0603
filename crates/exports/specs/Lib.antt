-- What the calls for other languages answer, and every lent slice afterwards.
pub mod Exported
pub mod Calls
