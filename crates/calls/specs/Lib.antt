pub mod Outcomes
pub mod Prepared
pub mod Kinds
pub mod Behind
pub mod Whole
pub mod Demand
