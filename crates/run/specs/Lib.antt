pub mod Followers
pub mod Written
pub mod Watches
pub mod Counts
pub mod Runs
pub mod Truth
pub mod Advances
pub mod Lives
