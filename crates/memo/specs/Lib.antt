pub mod Memo
pub mod Verdicts
