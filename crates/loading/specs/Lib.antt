pub mod Nodes
pub mod Tables
pub mod Exports
pub mod Checked
