pub mod Loose
pub mod LooseAcross
