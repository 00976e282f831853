pub mod Parity
pub mod Format
pub mod Frame
pub mod Transmitter
pub mod Receiver
