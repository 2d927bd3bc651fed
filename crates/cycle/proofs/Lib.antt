pub mod Futures
pub mod Powers
pub mod Compared
pub mod Pigeonholes
pub mod Found
pub mod Lateness
