pub mod TapLemmas
