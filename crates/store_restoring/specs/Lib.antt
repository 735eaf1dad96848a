pub mod Fitting
pub mod Restored
pub mod Opened
pub mod Times
