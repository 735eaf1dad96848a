pub mod Choices
pub mod SameIds
pub mod IdTexts
pub mod IdOrders
mod Products
pub mod Replacing
pub mod Parting
