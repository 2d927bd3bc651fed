pub mod Settings
pub mod Repetition
pub mod Bound
pub mod Service
