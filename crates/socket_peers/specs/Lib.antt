pub mod Socket
pub mod Tally
pub mod Peer
pub mod Peers
