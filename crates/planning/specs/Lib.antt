pub mod Settings
pub mod Runs
pub mod Following
pub mod Inputs
