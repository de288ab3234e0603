-- Document 01's bench cases: their certificates, and the table of what is asked and due.
pub mod Papers
pub mod Table
