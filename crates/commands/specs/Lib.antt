pub mod Statuses
pub mod NodeFiles
pub mod Scenarios
pub mod Said
pub mod Serving
pub mod Commands
