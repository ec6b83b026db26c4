-- Laws of answers in numbers, and the two demands of the linked calls.
pub mod NumberLaws
pub mod Vectors
pub mod Demands
