pub mod TableLemmas
pub mod DueLemmas
pub mod HeldLemmas
pub mod PointLemmas
pub mod LentPoints
