pub mod Record
pub mod Board
pub mod Sweep
pub mod Calls
pub mod Delivery
