pub mod Fields
pub mod Index
pub mod Kinds
pub mod Scope
pub mod Ancestors
pub mod Tests
pub mod Numbers
