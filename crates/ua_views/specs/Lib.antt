pub mod Views
pub mod Identifiers
pub mod Bodies
pub mod VariantBytes
pub mod Passing
pub mod Shapes
