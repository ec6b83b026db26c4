-- What stands on a card (document 01, 'The card' and 'A generation'), and the questions that start asks of it.
pub mod Bytes
pub mod Block
pub mod Ring
pub mod Range
pub mod Pot
pub mod Header
pub mod Directory
pub mod Trailer
pub mod Refusal
pub mod Question
pub mod Checkpoint
