pub mod Reactions
pub mod Connecting
pub mod Delivering
pub mod Coherent
pub mod Apart
pub mod Shutting
