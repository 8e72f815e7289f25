pub mod Fresh
pub mod Standing
pub mod Bringing
pub mod Meeting
pub mod Sound
pub mod Signing
pub mod Needing
pub mod After
