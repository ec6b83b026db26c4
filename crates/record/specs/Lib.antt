-- The record, what it means, and question 2.
pub mod Lists
pub mod Meaning
pub mod Holds
