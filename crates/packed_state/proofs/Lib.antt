-- Eight bytes of a length, the copies, and the state unpacked again.
pub mod Octets
pub mod Packing
pub mod Passing
