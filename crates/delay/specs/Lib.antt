pub mod Marks
pub mod Profiles
pub mod Figures
pub mod Lines
pub mod Models
pub mod Bounds
pub mod LineLaws
pub mod MarkLaws
