pub mod Singles
pub mod Tails
pub mod Steps
pub mod Members
pub mod Cycle
pub mod Recalling
