pub mod AgreedLemmas
pub mod CoherentLemmas
pub mod ApartLemmas
pub mod FittingLemmas
pub mod NumberingLemmas
pub mod AlikeLemmas
pub mod LentLemmas
pub mod ShuttingLemmas
