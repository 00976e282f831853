pub mod Access
pub mod Chip
pub mod Separation
