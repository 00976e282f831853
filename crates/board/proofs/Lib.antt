pub mod Boards
pub mod Sweeps
pub mod Turns
pub mod Directions
pub mod Records
pub mod Deliveries
pub mod SetUps
