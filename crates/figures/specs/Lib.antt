pub mod Figures
pub mod BoardFigures
