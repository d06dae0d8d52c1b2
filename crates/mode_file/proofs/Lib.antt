pub mod Clamped
pub mod Codes
pub mod InOrder
pub mod Laws
pub mod Lines
