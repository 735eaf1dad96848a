pub mod BodiesAgain
pub mod ResultLemmas
pub mod RoomLemmas
pub mod StructuresAgain
pub mod SizedLemmas
pub mod RequestLemmas
