pub mod Plain
pub mod Prefixes
pub mod WrittenNodes
pub mod ReadAfterwards
pub mod Taking
pub mod PartAfterwards
