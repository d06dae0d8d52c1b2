pub mod Rows
pub mod Walk
pub mod Looked
pub mod Told
