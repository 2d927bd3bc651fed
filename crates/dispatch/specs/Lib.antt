pub mod Rules
pub mod Policies
pub mod Urgencies
