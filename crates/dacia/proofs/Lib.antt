pub mod Separations
