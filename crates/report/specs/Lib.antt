pub mod Buffers
pub mod Words
pub mod Sinks
pub mod Reports
pub mod Texts
