pub mod Fields
pub mod Layouts
pub mod OneBit
pub mod Writes
