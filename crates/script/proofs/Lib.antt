pub mod Steps
pub mod Lines
pub mod Readings
pub mod Spellings
pub mod Scripts
pub mod Misfits
pub mod Promises
pub mod Wants
