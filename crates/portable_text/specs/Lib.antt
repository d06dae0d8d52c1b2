pub mod Line
pub mod Numbers
pub mod Scan
