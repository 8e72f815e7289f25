pub mod Steps
pub mod Marking
pub mod Occurs
pub mod SelfInverse
pub mod Modules
