-- The frame layer's promise, and what its parts promise.
pub mod Promise
pub mod Parts
