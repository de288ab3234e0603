-- The parts of judging that single functions answer for.
pub mod Search
