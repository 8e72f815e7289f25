pub mod Writing
pub mod Cells
pub mod Nodes
pub mod Records
pub mod Whole
