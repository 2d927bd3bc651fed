pub mod Following
pub mod Sampling
pub mod Counting
pub mod Going
pub mod Beginning
pub mod Truths
pub mod Living
