pub mod Form
pub mod Place
pub mod Scan
pub mod Promises
