pub mod Machines
pub mod Comparisons
pub mod Theorems
