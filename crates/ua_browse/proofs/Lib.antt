mod Naming
pub mod Paging
