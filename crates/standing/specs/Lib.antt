pub mod Standings
pub mod Decisions
