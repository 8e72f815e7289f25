pub mod Walks
pub mod Planes
pub mod Sheets
