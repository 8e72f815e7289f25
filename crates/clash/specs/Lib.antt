pub mod Pairs
pub mod Readings
pub mod LooseReadings
pub mod Places
pub mod Signatures
pub mod Params
pub mod Brought
