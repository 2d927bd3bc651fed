pub mod Reaching
pub mod Settings
