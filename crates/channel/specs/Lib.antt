pub mod Bits
pub mod Control
pub mod Modem
pub mod Interrupts
pub mod Sender
pub mod Receiving
pub mod Channel
pub mod Calls
