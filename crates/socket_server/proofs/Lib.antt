pub mod ServingLemmas
pub mod DepartLemmas
pub mod SilenceLemmas
