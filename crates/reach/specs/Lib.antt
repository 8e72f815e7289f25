pub mod Within
pub mod Walk
pub mod Counts
pub mod Steps
pub mod Impls
pub mod Params
pub mod Whole
