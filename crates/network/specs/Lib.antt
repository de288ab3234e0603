-- The flow rule, its two conditions, and the image of a closed box of queues, in the order of document 01.
pub mod Network
pub mod Flow
pub mod Conditions
pub mod Image
pub mod Sound
pub mod Laws
