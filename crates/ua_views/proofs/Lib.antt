mod Looking
mod Stepping
pub mod VariantBytes
pub mod Elements
pub mod Shapes
pub mod Flat
pub mod PlainBytes
