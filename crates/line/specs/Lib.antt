pub mod Line
pub mod TableLine
