pub mod Lent
pub mod Fixed
pub mod Text
pub mod Counted
