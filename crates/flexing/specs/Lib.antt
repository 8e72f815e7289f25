pub mod Asked
pub mod Calls
pub mod Kept
pub mod Rest
pub mod Sides
