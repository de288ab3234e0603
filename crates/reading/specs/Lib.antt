-- Where the records of a certificate stand, and what reading answers.
pub mod Layouts
pub mod ReadingResults
