pub mod Counted
pub mod Said
