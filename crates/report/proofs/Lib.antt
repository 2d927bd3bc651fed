mod Taking
pub mod Puts
mod Sinks
