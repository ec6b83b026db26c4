-- What the linked calls promise, the two demands of them, and that their forecast holds.
pub mod Linked
pub mod Demands
