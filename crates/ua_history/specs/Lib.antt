pub mod Histories
pub mod Intervals
pub mod Runs
pub mod Pages
pub mod Reading
pub mod HistoryLaws
