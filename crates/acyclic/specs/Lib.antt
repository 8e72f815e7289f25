pub mod Nodes
pub mod Walk
pub mod Tables
pub mod Sheets
