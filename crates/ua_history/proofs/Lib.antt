pub mod Keeping
pub mod Between
pub mod Filling
pub mod PagingLemmas
pub mod Begun
pub mod Beginning
pub mod Dropping
