pub mod Ids
pub mod Steps
pub mod ByTime
pub mod Sorting
