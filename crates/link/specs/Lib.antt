pub mod Link
pub mod Past
