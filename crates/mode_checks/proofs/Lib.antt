-- The tests of modes.
pub mod ModeTests
