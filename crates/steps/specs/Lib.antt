pub mod Asking
pub mod Loops
pub mod Built
pub mod Next
pub mod Behind
pub mod Params
pub mod Beginning
pub mod Candidate
