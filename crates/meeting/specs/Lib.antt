-- Types that have to be the same are met.
pub mod Meeting
pub mod Rows
pub mod Across
pub mod Sizes
pub mod Cycles
pub mod Notes
