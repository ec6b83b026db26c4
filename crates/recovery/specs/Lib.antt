-- What a store of frames is and does (document 01, 'A generation', 'The calls', 'Questions asked', 'The book'), without the form of its record.
pub mod Write
pub mod Contents
pub mod Directory
pub mod State
pub mod Step
pub mod Questions
pub mod Sums
pub mod Book
pub mod Sound
pub mod FirstChange
