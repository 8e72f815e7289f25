pub mod Sits
pub mod Spent
pub mod Demand
