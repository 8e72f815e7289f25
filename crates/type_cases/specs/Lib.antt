pub mod Given
pub mod Pushed
pub mod Sound
pub mod Steps
