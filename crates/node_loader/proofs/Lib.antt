pub mod Tables
pub mod Loops
pub mod Pasts
pub mod Typed
pub mod Defaults
pub mod Ordering
pub mod Kept
pub mod Rising
