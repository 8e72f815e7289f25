pub mod Few
pub mod Gathering
pub mod Queries
pub mod Reading
pub mod Rows
pub mod Sizes
pub mod Takes
