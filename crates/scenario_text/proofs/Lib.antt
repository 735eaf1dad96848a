pub mod Spaces
pub mod Entries
pub mod Lines
pub mod Fronts
pub mod ElementLists
pub mod BodiesAgain
