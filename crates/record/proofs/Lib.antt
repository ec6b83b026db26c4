-- What question 2 tells of a record, and that its meaning is then sound.
pub mod ListLaws
pub mod SearchLaws
pub mod HoldTests
pub mod Tests
pub mod Held
pub mod SeatLaws
pub mod NoneLaws
pub mod SoundLaws
pub mod PhaseTable
