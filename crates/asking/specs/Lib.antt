pub mod Impls
