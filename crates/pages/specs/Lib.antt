-- Pages and changes of them, the calls and their promise, the book, the two demands, and what a forecast is worth.
pub mod Page
pub mod Needed
pub mod Change
pub mod Call
pub mod Promise
pub mod Book
pub mod Plain
pub mod Demand2
pub mod Demand3
pub mod ForecastHolds
