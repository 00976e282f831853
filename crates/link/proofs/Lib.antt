pub mod Runs
pub mod WholeFrame
pub mod Flow
pub mod Pending
pub mod Motion
pub mod Cycles
pub mod Links
