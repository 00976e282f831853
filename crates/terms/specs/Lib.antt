pub mod ChannelId
pub mod Channels
pub mod Register
pub mod ModemLine
pub mod Note
pub mod Report
pub mod Refusal
