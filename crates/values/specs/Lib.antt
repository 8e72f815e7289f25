pub mod Folds
pub mod NodeLaws
pub mod Tests
pub mod Known
pub mod Value
pub mod Tables
pub mod Kept
pub mod Verdict
