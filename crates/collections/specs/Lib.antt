pub mod Slots
pub mod SlotLends
pub mod Numbered
pub mod Laid
pub mod Places
pub mod Parts
pub mod Runs
