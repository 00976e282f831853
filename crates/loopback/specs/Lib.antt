pub mod Names
pub mod Tally
