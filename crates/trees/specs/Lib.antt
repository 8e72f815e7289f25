pub mod Forests
pub mod Carries
pub mod Changes
