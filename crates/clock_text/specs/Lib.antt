pub mod Sets
pub mod Report
pub mod Parts
