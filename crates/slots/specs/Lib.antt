pub mod Slots
pub mod Copies
pub mod Adding
pub mod Turns
pub mod Gathering
pub mod Parts
pub mod Settling
