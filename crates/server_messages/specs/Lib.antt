pub mod Kept
pub mod Halts
