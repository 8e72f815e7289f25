pub mod Meaning
pub mod Refs
pub mod Links
pub mod Children
