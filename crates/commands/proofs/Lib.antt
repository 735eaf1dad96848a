pub mod MadeLemmas
pub mod PipeLemmas
pub mod ServeLemmas
