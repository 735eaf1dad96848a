pub mod Sessions
pub mod Browsing
pub mod Reading
pub mod History
pub mod Writing
