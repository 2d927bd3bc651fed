pub mod Firsts
pub mod Comparing
pub mod Examining
pub mod Knowing
pub mod Deciding
pub mod Closing
