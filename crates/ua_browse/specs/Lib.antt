pub mod Wanted
pub mod Describing
pub mod Browsing
pub mod BrowsingLaws
