pub mod Bits
pub mod Layouts
pub mod Readers
pub mod Writers
