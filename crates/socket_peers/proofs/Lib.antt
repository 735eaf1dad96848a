pub mod PeerLemmas
pub mod MapLemmas
